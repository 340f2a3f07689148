use Rattle.std.proofs.Common.{◌≡◌, take}
use Rattle.frames.specs.Hex.{all_digits}
use Rattle.frames.proofs.hex.each_digit.Given as goal

abbrev pub invariant-loop-byte : goal.invariant-loop-byte
invariant-loop-byte l = l.all ≡ all_digits (take l.byte-index l.bytes)
