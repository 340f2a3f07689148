-- Numbers in a range.
use Rattle.std.specs.Prelude.{ℕ, cond, ◌&&◌, Some, None, Ok, Err, Option, Result, nat_le}
use Rattle.frames.specs.declared.refusal.Refusal.{Refusal}
use Rattle.frames.specs.declared.refusal.Refusal.TheVariants.{ValueRange}

-- from the least to the most
abbrev pub within : (least most n : ℕ) → Option ℕ
within least most n = cond (nat_le least n && nat_le n most) (Some n) None

-- a number out of the range is refused
abbrev pub ranged_in : (least most n : ℕ) → Result ℕ Refusal
ranged_in least most n = cond (nat_le least n && nat_le n most) (Ok n) (Err ValueRange)
