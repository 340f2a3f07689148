use Rattle.std.proofs.Common.{◌≡◌, ℕ, ◌<◌, false, length, get_or}
use Rattle.payloads.specs.Payloads.{barred}
use Rattle.payloads.proofs.marks.read_marks.Given as goal

-- the marks so far
abbrev pub invariant-loop-k : goal.invariant-loop-k
invariant-loop-k l = (length l.bars ≡ 63) × ((j : ℕ) → j < l.k → get_or l.bars j false ≡ barred l.octets j)
