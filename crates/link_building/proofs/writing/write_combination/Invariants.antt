use Rattle.std.proofs.Common.{◌≡◌, ◌++◌, drop}
use Rattle.link_building.specs.Wire.{sizes_octets}
use Rattle.link_building.proofs.writing.write_combination.Given as goal

abbrev pub invariant-loop-size : goal.invariant-loop-size
invariant-loop-size l = l.out ++ sizes_octets l.wide (drop l.size-index l.sizes) ≡ l.initial.out ++ sizes_octets l.wide l.sizes
