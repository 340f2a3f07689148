use Rattle.std.proofs.Common.{◌≡◌, length}
use Rattle.iuupshow.proofs.main.Given as goal

-- the buffer keeps its length from piece to piece
abbrev pub invariant-loop : goal.invariant-loop
invariant-loop l = length l.piece ≡ 8192
