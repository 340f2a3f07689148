use Rattle.std.proofs.Common.{◌≡◌}
use Rattle.std.specs.Slice.Iter.{chunks_rest, chunks_size}
use Rattle.link_reading.specs.Layout.{sizes_in, width}
use Rattle.link_reading.proofs.Parts.{Turned}
use Rattle.link_reading.proofs.reading.read_sizes.Given as goal

abbrev pub invariant-loop-size : goal.invariant-loop-size
invariant-loop-size l =
    let left = chunks_rest l.size-iterator in
    (goal.iterator-loop-size).can_next l.size-iterator
    × (goal.iterator-loop-size).is_finite l.size-iterator
    × (chunks_size l.size-iterator ≡ width 1 l.wide)
    × Turned l.wide l.subflows l.sizes left (sizes_in l.wide l.subflows l.octets)
