-- How large a store may be.
use Rattle.std.specs.Prelude.{ℕ, cond, ◌||◌, Ok, Err, Result, nat_lt}
use Rattle.frames.specs.declared.refusal.Refusal.{Refusal}
use Rattle.frames.specs.declared.refusal.Refusal.TheVariants.{SettingRange}

-- from the least to the most
abbrev pub size_in : ℕ → ℕ → ℕ → Result ℕ Refusal
size_in least most n = cond (nat_lt n least || nat_lt most n) (Err SettingRange) (Ok n)
