-- The supervision of a question, whatever it asks.
use Rattle.std.specs.Prelude.{ℕ, ◌+◌, ◌-◌, Bool, true, false, List, [], ◌∷◌, length, Some, None, Ok, Err, Option, Result, ◌==◌, nat_lt, if◌then◌else◌}
use Rattle.frames.specs.declared.refusal.Refusal.{Refusal}
use Rattle.frames.specs.declared.refusal.Refusal.TheVariants.{UnexpectedValue}
use Rattle.reports.specs.declared.ending.Kind.{Kind}
use Rattle.reports.specs.declared.ending.Ending.{Ending}
use Rattle.reports.specs.declared.ending.Ending.TheVariants.{Done}
use Rattle.reports.specs.declared.happening.Happening.{Happening}
use Rattle.reports.specs.declared.happening.Happening.TheVariants.{Started, Ended}
use Rattle.reports.specs.Said.{sending}
use Rattle.reports.specs.Effects.{Effect, refuses}
use Rattle.exchange.specs.declared.exchange.Exchange.{Exchange}
use Rattle.exchange.specs.declared.answer.Turn.{Turn}
use Rattle.exchange.specs.declared.answer.Turn.TheVariants.{Onward, Again, Stop}
use Rattle.exchange.specs.declared.limits.Limits.{Limits}

-- a frame that is sent for the first time has all its ticks left
abbrev pub begun : {Q : Type 0} → Q → ℕ → Limits → Exchange Q
begun q number limits = record { question = q; ticks = limits.ticks; repeats = 0; number = number }

-- the exchange that was stepped in place, if it goes on
abbrev pub kept : {Q : Type 0} → Bool → Exchange Q → Option (Exchange Q)
kept true e = Some e
kept false e = None

-- what an answer leads to: an erroneous one counts as declined
abbrev pub leads : {A : Type 0} → (A → Turn) → Result A Refusal → Turn
leads turns (Ok a) = turns a
leads turns (Err e) = Again

-- takes: the lengths that the line takes
module _ {Q : Type 0} (frames : Q → ℕ → List ℕ) where
  -- what is named of sending the present frame
  abbrev pub asking : (ℕ → Bool) → Exchange Q → Happening
  asking takes e = sending (takes (length (frames e.question e.number))) (frames e.question e.number)

  abbrev pub sent : (ℕ → Bool) → Exchange Q → Effect (Unit {0}) (Unit {0})
  sent takes e = record { next = tt; says = asking takes e ∷ []; answer = tt }

  module _ (kind : Kind) where
    abbrev pub announced : (ℕ → Bool) → Exchange Q → Effect (Unit {0}) (Unit {0})
    announced takes e = record { next = tt; says = Started kind ∷ asking takes e ∷ []; answer = tt }

    abbrev pub ends : Ending → Effect (Option (Exchange Q)) (Unit {0})
    ends ending = record { next = None; says = Ended kind ending ∷ []; answer = tt }

    module _ (takes : ℕ → Bool) (limits : Limits) where
      abbrev pub goes_on : Exchange Q → Effect (Option (Exchange Q)) (Unit {0})
      goes_on e = record { next = Some e; says = asking takes e ∷ []; answer = tt }

      -- the present frame is sent again if it was repeated too seldom, else the exchange ends
      abbrev pub again : Ending → Exchange Q → Effect (Option (Exchange Q)) (Unit {0})
      again ending e =
          if nat_lt e.repeats limits.repeats then goes_on (record e { ticks = limits.ticks; repeats = e.repeats + 1 }) else ends ending

      -- a tick lowers the ticks; at 0 the frame is repeated or the exchange ends
      abbrev pub ticked : Ending → Exchange Q → Effect (Option (Exchange Q)) (Unit {0})
      ticked unanswered e =
          if nat_lt 1 e.ticks then record { next = Some (record e { ticks = e.ticks - 1 }); says = []; answer = tt } else again unanswered e

      module _ (follows : Q → ℕ → Bool) (declined : Ending) where
        -- an answer leads on to the next frame or the end, to a repeat, or to an end at once
        abbrev pub turned : Turn → Exchange Q → Effect (Option (Exchange Q)) (Unit {0})
        turned Onward e = if follows e.question e.number then goes_on (begun e.question (e.number + 1) limits) else ends Done
        turned Again e = again declined e
        turned (Stop ending) e = ends ending

        -- an answer with another number changes nothing
        abbrev pub heard : {A : Type 0} → Turn → Result A Refusal → ℕ → Exchange Q → Effect (Option (Exchange Q)) (Result A Refusal)
        heard turn answer number e =
            if e.number == number
            then (let f = turned turn e in record { next = f.next; says = f.says; answer = answer })
            else refuses (Some e) UnexpectedValue
