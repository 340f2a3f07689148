use Rattle.std.proofs.Common.{◌≡◌}
use Rattle.std.specs.Slice.Iter.{chunks_rest, chunks_size}
use Rattle.building.specs.Rates.{rate_payload}
use Rattle.building.proofs.Marks.{whole}
use Rattle.building.proofs.rate.rate_payload.Given as goal

abbrev pub invariant-loop-eight : goal.invariant-loop-eight
invariant-loop-eight l =
    (goal.iterator-loop-eight).can_next l.eight-iterator
    × (goal.iterator-loop-eight).is_finite l.eight-iterator
    × (chunks_size l.eight-iterator ≡ 8)
    × (whole l.payload (chunks_rest l.eight-iterator) ≡ rate_payload l.bars)
