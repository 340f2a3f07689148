use Rattle.std.proofs.Common.{arith, length-set}
use Rattle.frames.proofs.Tails.{tailed_push}
use Rattle.frames.proofs.row.Row.push.Goals as goal

pub invariant_of-self : goal.invariant_of-self
invariant_of-self g c =
    let l = length-set c.self.inside.cells c.self.inside.len c.args.item in
    (omega arith, omega (arith, l), tailed_push g.T.Blank.blank g.row.N _ _ _ c.self.invariant.1 (omega arith) c.self.invariant.2)
