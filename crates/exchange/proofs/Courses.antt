-- The books of an exchange are kept over its whole course.
use Rattle.std.proofs.Common.{◌≡◌, ℕ, ◌<◌, Bool, List, [], ◌∷◌, Some, Option, sym, refl, ◌∙◌, subst, eq-eqb}
use Rattle.frames.specs.declared.procedure.Procedure.{Procedure}
use Rattle.reports.specs.declared.ending.Kind.{Kind}
use Rattle.reports.specs.declared.ending.Ending.{Ending}
use Rattle.exchange.specs.declared.exchange.Exchange.{Exchange}
use Rattle.exchange.specs.declared.answer.Turn.{Turn}
use Rattle.exchange.specs.declared.limits.Limits.{Limits}
use Rattle.exchange.specs.Asked.{Proper}
use Rattle.exchange.specs.Asking.{begun}
use Rattle.exchange.specs.Books.{Mark, opened, announced, asked, procedure_of, blank, entered}
use Rattle.exchange.specs.Course.{Course, asks, ticks, hears, CoursesHold}
use Rattle.exchange.proofs.Moves.{watched, Booked, begins, moved, kept, blank_idle, entered-++}
use Rattle.exchange.proofs.Exchanging.{only, Asks, sends, ticking, hearing}

module _ {Q A : Type 0} (procedure : Procedure) (kind : Kind) (payloads frames : Q → ℕ → List ℕ) (follows : Q → ℕ → Bool) (unanswered declined : Ending) (turns : A → Turn) (proper : Proper procedure kind payloads frames follows unanswered declined turns) (limits : Limits) (q : Q) (m : ℕ) (lt : m < 4) where
  own : (ms : List Mark) → only kind kind ms ≡ ms
  own ms = rw (eq-eqb (procedure_of kind) (procedure_of kind) refl)

  abbrev t : ℕ
  t = limits.ticks

  abbrev n : ℕ
  n = limits.repeats

  stands : {ms : List Mark} {o : Option (Exchange Q)} → Course frames kind follows unanswered declined turns limits (begun q m limits) ms o → Asks o × Booked t n (watched o) (entered ms blank)
  stands (asks takes) =
      (lt, subst (λ x. Booked t n (watched (Some (begun q m limits))) (entered (opened ∷ announced ∷ x) blank)) (sym (sends procedure kind payloads frames follows unanswered declined turns proper limits takes kind (begun q m limits) lt ∙ own (asked m ∷ []))) (moved t n blank limits.some (begins refl refl) (blank_idle t n)))
  stands (ticks {ms} {x} takes c) =
      let h = stands c in
      let g = ticking procedure kind payloads frames follows unanswered declined turns proper limits takes x h.0 in (
        g.asks,
        rw (entered-++ ms, g.says kind, own) (moved t n (entered ms blank) limits.some g.move h.1),
      )
  stands (hears {ms} {x} takes answer number c) =
      let h = stands c in
      let g = hearing procedure kind payloads frames follows unanswered declined turns proper limits takes answer answer number x h.0 in (
        g.asks,
        rw (entered-++ ms, g.says kind, own) (moved t n (entered ms blank) limits.some g.move h.1),
      )

  pub courses_hold : CoursesHold frames kind follows unanswered declined turns limits (begun q m limits)
  courses_hold ms o c = kept t n (watched o) (entered ms blank) (stands c).1
