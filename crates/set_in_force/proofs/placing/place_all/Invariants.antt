use Rattle.std.proofs.Common.{◌≡◌, ◌+◌, ◌++◌, length, drop}
use Rattle.sets.specs.Rows.{bits}
use Rattle.set_in_force.specs.Places.{places_from}
use Rattle.set_in_force.proofs.placing.place_all.Given as goal

abbrev pub invariant-loop-size : goal.invariant-loop-size
invariant-loop-size l =
    record {
      places : l.row ++ places_from l.first (drop l.size-index l.sizes) ≡ places_from 0 l.sizes;
      count : length l.row ≡ l.size-index;
      bits : l.first + bits (drop l.size-index l.sizes) ≡ bits l.sizes;
    }
