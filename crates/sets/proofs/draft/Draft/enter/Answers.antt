use Rattle.std.proofs.Common.{ap, ◌∙◌, arith}
use Rattle.sets.specs.Rows.{free}
use Rattle.sets.specs.Contents.{Contents}
use Rattle.sets.proofs.Adds.{admission, free_push}
use Rattle.sets.proofs.draft.Draft.enter.Goals as goal

pub new-requires : goal.new-requires
new-requires c =
    let a = admission _ _ _ _ c.requires in
    let v = ap (λ (d : Contents). d.opening.subflows) c.self.view_is in
    let few = c.self.invariant.sound.few in
    omega (arith, a.count)

pub invariant_of-self : goal.invariant_of-self
invariant_of-self c =
    let f = free_push _ _ c.self.invariant.free (ap (λ r. r.allowed) c.new.ensures) in
    record { sound = c.push.ensures.sound; free = ap free c.push.ensures.rows ∙ f }
