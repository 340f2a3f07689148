use Rattle.std.proofs.Common.{arith, length-set}
use Rattle.frames.proofs.Tails.{tailed_push}
use Rattle.reports.specs.Blanks.{blank}
use Rattle.reports.proofs.report.Report.note.Goals as goal

pub invariant_of-self : goal.invariant_of-self
invariant_of-self c =
    let l = length-set c.self.inside.list c.self.inside.count c.args.happening in
    (omega arith, omega (arith, l), tailed_push blank 4 _ _ _ c.self.invariant.1 (omega arith) c.self.invariant.2)
