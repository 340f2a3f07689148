-- How many octets a ring may have.
use Rattle.std.specs.Prelude.{ℕ, Result}
use Rattle.frames.specs.declared.refusal.Refusal.{Refusal}
use Rattle.lines.specs.Sizes.{size_in}
use Rattle.ring.specs.Round.{least, greatest}

-- 514 to 65,536
abbrev pub octets_in : ℕ → Result ℕ Refusal
octets_in n = size_in least greatest n
