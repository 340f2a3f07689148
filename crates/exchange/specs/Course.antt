-- The course of one exchange: asked, then any ticks and any answers, whatever the line takes.
use Rattle.std.specs.Prelude.{ℕ, Bool, List, ◌∷◌, ◌++◌, Some, Option, Result}
use Rattle.frames.specs.declared.refusal.Refusal.{Refusal}
use Rattle.reports.specs.declared.ending.Kind.{Kind}
use Rattle.reports.specs.declared.ending.Ending.{Ending}
use Rattle.exchange.specs.declared.exchange.Exchange.{Exchange}
use Rattle.exchange.specs.declared.answer.Turn.{Turn}
use Rattle.exchange.specs.declared.limits.Limits.{Limits}
use Rattle.exchange.specs.Asking as Asking
use Rattle.exchange.specs.Books.{Mark, opened, announced, waited, named, blank, entered, Kept}

module _ {Q A : Type 0} (frames : Q → ℕ → List ℕ) (kind : Kind) (follows : Q → ℕ → Bool) (unanswered declined : Ending) (turns : A → Turn) (limits : Limits) where
  -- what the books take note of, and the exchange as it then stands
  pub data Course (e : Exchange Q) : List Mark → Option (Exchange Q) → Type 0 where
    asks : (takes : ℕ → Bool) → Course e (opened ∷ announced ∷ named kind (Asking.sent frames takes e).says) (Some e)
    ticks : {ms : List Mark} {x : Exchange Q} (takes : ℕ → Bool) → Course e ms (Some x)
        → Course e (ms ++ waited ∷ named kind (Asking.ticked frames kind takes limits unanswered x).says) (Asking.ticked frames kind takes limits unanswered x).next
    hears : {ms : List Mark} {x : Exchange Q} (takes : ℕ → Bool) (answer : Result A Refusal) (number : ℕ) → Course e ms (Some x)
        → Course e (ms ++ named kind (Asking.heard frames kind takes limits follows declined (Asking.leads turns answer) answer number x).says) (Asking.heard frames kind takes limits follows declined (Asking.leads turns answer) answer number x).next

  -- its books are kept, at every point of every course
  abbrev pub CoursesHold : Exchange Q → Type 0
  CoursesHold e = (ms : List Mark) (o : Option (Exchange Q)) → Course e ms o → Kept limits.ticks limits.repeats (entered ms blank)
