use Rattle.std.proofs.Common.{◌≡◌, true, ◌++◌}
use Rattle.std.specs.Slice.Iter.{chunks_rest, chunks_size}
use Rattle.sets.specs.Rows.{sound}
use Rattle.link_building.specs.Wire.{nibbles}
use Rattle.link_building.proofs.part.Part.write_iptis.Given as goal

abbrev pub invariant-loop-pair : goal.invariant-loop-pair
invariant-loop-pair l =
    let o = l.self.opening in
    let left = chunks_rest l.pair-iterator in
    (goal.iterator-loop-pair).can_next l.pair-iterator
    × (goal.iterator-loop-pair).is_finite l.pair-iterator
    × (chunks_size l.pair-iterator ≡ 2)
    × (l.out ++ nibbles left ≡ l.initial.out ++ nibbles l.self.combinations)
    × (sound o.subflows o.timed left ≡ true)
