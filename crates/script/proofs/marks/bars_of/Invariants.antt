use Rattle.std.proofs.Common.{◌≡◌, length, map, take}
use Rattle.script.specs.Marks.{bars}
use Rattle.script.proofs.marks.bars_of.Given as goal

-- the marks of the characters so far
abbrev pub invariant-loop-place : goal.invariant-loop-place
invariant-loop-place l = (take l.place l.bars ≡ map bars (take l.place l.fn.marks)) × (length l.bars ≡ 63)
