-- Settings as an owner chooses them.
use Rattle.std.specs.Prelude.{ℕ, Bool, Ok, Err, Result}
use Rattle.frames.specs.declared.refusal.Refusal.{Refusal}
use Rattle.exchange.specs.declared.limits.Limits.{Limits}
use Rattle.exchange.specs.Limiting.{Bound, bound_in}
use Rattle.bearer.specs.declared.settings.Numbering.{Numbering}
use Rattle.bearer.specs.declared.settings.Timing.{Timing}
use Rattle.bearer.specs.declared.settings.Settings.{Settings}

-- what settings say
pub record Chosen : Type 0 where
  pub initialisation : Bound
  pub rate : Bound
  pub alignment : Bound
  pub numbering : Numbering
  pub keep_damaged : Bool
  pub mark : ℕ

abbrev pub bound_of : Limits → Bound
bound_of l = record { ticks = l.ticks; repeats = l.repeats }

-- what an answer of the code says
abbrev pub as_chosen : Result Settings Refusal → Result Chosen Refusal
as_chosen (Ok s) = Ok (record { initialisation = bound_of s.initialisation; rate = bound_of s.rate; alignment = bound_of s.alignment; numbering = s.numbering; keep_damaged = s.keep_damaged; mark = s.mark })
as_chosen (Err e) = Err e

-- each procedure's ticks and repeats are in their ranges, or the settings are refused
abbrev pub chosen_of : Result Bound Refusal → Result Bound Refusal → Result Bound Refusal → Numbering → Bool → ℕ → Result Chosen Refusal
chosen_of (Ok i) (Ok r) (Ok a) numbering keep mark = Ok (record { initialisation = i; rate = r; alignment = a; numbering = numbering; keep_damaged = keep; mark = mark })
chosen_of (Ok i) (Ok r) (Err e) numbering keep mark = Err e
chosen_of (Ok i) (Err e) a numbering keep mark = Err e
chosen_of (Err e) r a numbering keep mark = Err e

abbrev pub chosen_in : Timing → Timing → Timing → Numbering → Bool → ℕ → Result Chosen Refusal
chosen_in i r a = chosen_of (bound_in i.ticks i.repeats) (bound_in r.ticks r.repeats) (bound_in a.ticks a.repeats)
