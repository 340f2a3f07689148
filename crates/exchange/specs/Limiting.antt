-- The limits of an exchange.
use Rattle.std.specs.Prelude.{ℕ, cond, ◌&&◌, Ok, Err, Result, nat_le}
use Rattle.frames.specs.declared.refusal.Refusal.{Refusal}
use Rattle.frames.specs.declared.refusal.Refusal.TheVariants.{SettingRange}
use Rattle.exchange.specs.declared.limits.Limits.{Limits}

-- T and N
pub record Bound : Type 0 where
  pub ticks : ℕ
  pub repeats : ℕ

abbrev pub as_bound : Result Limits Refusal → Result Bound Refusal
as_bound (Ok l) = Ok (record { ticks = l.ticks; repeats = l.repeats })
as_bound (Err e) = Err e

-- T is 1 to 1,000 and N is 0 to 15
abbrev pub bound_in : ℕ → ℕ → Result Bound Refusal
bound_in t n = cond (nat_le 1 t && nat_le t 1000 && nat_le n 15) (Ok (record { ticks = t; repeats = n })) (Err SettingRange)
