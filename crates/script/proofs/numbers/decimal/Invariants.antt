use Rattle.std.proofs.Common.{◌≡◌, ◌<◌, drop}
use Rattle.script.specs.Numbers.{decimal_on}
use Rattle.script.proofs.numbers.decimal.Given as goal

-- the digits left make of the value what all of them make of nothing
abbrev pub invariant-loop-byte : goal.invariant-loop-byte
invariant-loop-byte l = (decimal_on l.value (drop l.byte-index l.word) ≡ decimal_on 0 l.word) × (l.value < 1000000000000000000)
