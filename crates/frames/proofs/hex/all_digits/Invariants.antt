use Rattle.std.proofs.Common.{◌≡◌, ◌*◌, drop}
use Rattle.frames.specs.Hex.{all_digits}
use Rattle.frames.proofs.hex.all_digits.Given as goal

-- what is left decides
abbrev pub invariant-loop-part : goal.invariant-loop-part
invariant-loop-part l = all_digits (drop (64 * l.part-index) l.line) ≡ all_digits l.line
