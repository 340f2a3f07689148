-- What becomes of an exchange where one runs.
use Rattle.std.specs.Prelude.{ℕ, ◌+◌, ◌%◌, Bool, List, [], ◌∷◌, length, Some, None, Ok, Err, Option, Result, if◌then◌else◌}
use Rattle.frames.specs.declared.refusal.Refusal.{Refusal}
use Rattle.frames.specs.declared.refusal.Refusal.TheVariants.{AlreadyRuns, LineDeclines, UnexpectedProcedure}
use Rattle.frames.specs.Contents.{Reply}
use Rattle.reports.specs.declared.ending.Kind.{Kind}
use Rattle.reports.specs.declared.ending.Ending.{Ending}
use Rattle.reports.specs.declared.happening.Happening.TheVariants.{Started, HandedOver}
use Rattle.reports.specs.Effects.{Effect, refuses}
use Rattle.exchange.specs.declared.exchange.Exchange.{Exchange}
use Rattle.exchange.specs.declared.numbered.Numbered.{Numbered}
use Rattle.exchange.specs.declared.answer.Turn.{Turn}
use Rattle.exchange.specs.declared.limits.Limits.{Limits}
use Rattle.exchange.specs.Answers.{cause_in}
use Rattle.exchange.specs.Asking.{begun, announced, ticked, heard, leads}

-- a question that is asked uses up its number
abbrev pub number_after : {A : Type 0} → Result A Refusal → ℕ → ℕ
number_after (Ok a) n = (n + 1) % 4
number_after (Err e) n = n

-- an exchange begins: its start is named, and its first frame sent
abbrev pub slot_started : {Q : Type 0} → (Q → ℕ → List ℕ) → Kind → (ℕ → Bool) → Exchange Q → Effect (Option (Exchange Q)) (Unit {0})
slot_started frames kind takes e = record { next = Some e; says = (announced frames kind takes e).says; answer = tt }

module _ {Q : Type 0} (frames : Q → ℕ → List ℕ) (kind : Kind) (takes : ℕ → Bool) (limits : Limits) where
  -- a question is asked for the first time: none of its kind runs, and the line takes its frame
  abbrev pub slot_begun : Q → ℕ → Option (Exchange Q) → Effect (Option (Exchange Q)) (Result (Unit {0}) Refusal)
  slot_begun question number (Some e) = refuses (Some e) AlreadyRuns
  slot_begun question number None =
      if takes (length (frames question number))
      then record { next = Some (begun question number limits); says = Started kind ∷ HandedOver (frames question number) ∷ []; answer = Ok tt }
      else refuses None LineDeclines

  -- the same of questions that are numbered on: one that is asked uses up its number
  abbrev pub numbered_begun : Q → Numbered Q → Effect (Numbered Q) (Result (Unit {0}) Refusal)
  numbered_begun question n =
      let f = slot_begun question n.next n.running in
      record { next = record { running = f.next; next = number_after f.answer n.next }; says = f.says; answer = f.answer }

  abbrev pub slot_ticked : Ending → Option (Exchange Q) → Effect (Option (Exchange Q)) (Unit {0})
  slot_ticked unanswered None = record { next = None; says = []; answer = tt }
  slot_ticked unanswered (Some e) = ticked frames kind takes limits unanswered e

  -- an answer for what does not run is of an unexpected procedure
  abbrev pub slot_heard : (Q → ℕ → Bool) → Ending → (turns : Option ℕ → Turn) → Reply → Option (Exchange Q) → Effect (Option (Exchange Q)) (Result (Option ℕ) Refusal)
  slot_heard follows declined turns r None = refuses None UnexpectedProcedure
  slot_heard follows declined turns r (Some e) = heard frames kind takes limits follows declined (leads turns (cause_in r)) (cause_in r) r.number e
