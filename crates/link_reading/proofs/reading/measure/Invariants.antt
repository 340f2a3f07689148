use Rattle.std.proofs.Common.{◌≡◌, ◌+◌, ◌≤◌, length}
use Rattle.link_reading.specs.Layout.{extent, onward}
use Rattle.link_reading.proofs.Codings.{extent_of, spread}
use Rattle.link_reading.proofs.reading.measure.Given as goal

abbrev pub invariant-loop-combination : goal.invariant-loop-combination
invariant-loop-combination l =
    let left = l.combination-iterator in
    (goal.iterator-loop-combination).can_next left
    × (goal.iterator-loop-combination).is_finite left
    × (onward l.extent.count l.extent.octets (extent_of left) ≡ extent (length l.octets) l.subflows l.octets)
    × (l.extent.octets + spread left ≤ length l.octets)
    × (l.extent.count ≤ l.extent.octets)
