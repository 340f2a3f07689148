use Rattle.std.proofs.Common.{◌≡◌, ◌≤◌, ◌++◌, length, drop}
use Rattle.link_building.specs.Wire.{combinations}
use Rattle.link_building.proofs.part.Part.write_combinations.Given as goal

abbrev pub invariant-loop-row : goal.invariant-loop-row
invariant-loop-row l =
    (l.out ++ combinations (drop l.row-index l.self.combinations) ≡ l.initial.out ++ combinations l.self.combinations)
    × (l.row-index ≤ length l.others)
