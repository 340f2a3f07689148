use Rattle.std.proofs.Common.{arith, length-set, ◌∙◌, ap, slice_set}
use Rattle.std.proofs.Math.Seq.{take-set-lt}
use Rattle.frames.proofs.Tails.{tailed_set}
use Rattle.frames.proofs.row.Row.set.Goals as goal

pub invariant_of-self : goal.invariant_of-self
invariant_of-self g c =
    let l = length-set c.self.inside.cells c.args.place c.args.item in
    (c.self.invariant.0, l ∙ c.self.invariant.1, tailed_set g.T.Blank.blank g.row.N _ _ _ _ (omega arith) (omega (arith, c.self.invariant)) c.self.invariant.2)

pub returns-then-place-self : goal.returns-then-place-self
returns-then-place-self g c =
    take-set-lt c.self.inside.len c.self.inside.cells c.args.place c.args.item (omega arith)
    ∙ ap (λ l. slice_set l c.args.place c.args.item) c.self.view_is
