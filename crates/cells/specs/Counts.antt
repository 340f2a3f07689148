-- How many cells a line may have.
use Rattle.std.specs.Prelude.{ℕ, Result}
use Rattle.frames.specs.declared.refusal.Refusal.{Refusal}
use Rattle.lines.specs.Sizes.{size_in}

-- 1 to 32
abbrev pub count_in : ℕ → Result ℕ Refusal
count_in n = size_in 1 32 n
