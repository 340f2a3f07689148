use Rattle.std.proofs.Common.{sym, ◌∙◌}
use Rattle.sets.proofs.Tabled.{allow_sound}
use Rattle.sets.proofs.table.Table.allow.Goals as goal

pub returns-in-Some-clause-sound : goal.returns-in-Some-clause-sound
returns-in-Some-clause-sound c = allow_sound _ _ _ _ _ _ _ c.set.ensures (sym c.get.ensures ∙ c.in-Some.is) c.allow.ensures
