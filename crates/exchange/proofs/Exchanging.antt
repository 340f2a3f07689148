-- What becomes of one exchange is a move of its own kind, and is silent for the others.
use Rattle.std.proofs.Common.{◌≡◌, ℕ, ◌+◌, ◌/◌, ◌%◌, ◌<◌, ◌≤◌, Bool, true, false, cond, ◌&&◌, ◌||◌, eqb, ltb, List, [], ◌∷◌, ◌++◌, length, Some, None, Ok, Err, Option, Result, sym, refl, ap, ◌∙◌, append_assoc, append-nil, arith, ltb-true, eq-eqb}
use Rattle.std.proofs.lemmas.Bool.{and_right, cond_both}
use Rattle.frames.specs.declared.refusal.Refusal.{Refusal}
use Rattle.frames.specs.declared.procedure.Procedure.{Procedure}
use Rattle.frames.specs.declared.procedure.Procedure.TheVariants.{RateControl, TimeAlignment, ErrorEvent}
use Rattle.frames.specs.declared.procedure.Procedure.TheVariants.{Initialisation as Offering}
use Rattle.frames.specs.Procedures.{code_of}
use Rattle.building.specs.Building.{question_frame}
use Rattle.reports.specs.declared.ending.Kind.{Kind}
use Rattle.reports.specs.declared.ending.Ending.{Ending}
use Rattle.reports.specs.declared.ending.Ending.TheVariants.{Done}
use Rattle.reports.specs.declared.happening.Happening.{Happening}
use Rattle.reports.specs.declared.happening.Happening.TheVariants.{Started, Ended, HandedOver}
use Rattle.reports.specs.Said.{sending, delivered_in}
use Rattle.reports.specs.Effects.{Effect}
use Rattle.exchange.specs.declared.exchange.Exchange.{Exchange}
use Rattle.exchange.specs.declared.answer.Turn.{Turn}
use Rattle.exchange.specs.declared.answer.Turn.TheVariants.{Onward, Again, Stop}
use Rattle.exchange.specs.declared.limits.Limits.{Limits}
use Rattle.exchange.specs.Asked.{Fails, Proper}
use Rattle.exchange.specs.Asking as Asking
use Rattle.exchange.specs.Asking.{begun, leads, sent, ends, again, ticked, turned, heard}
use Rattle.frames.specs.Contents.{Reply}
use Rattle.exchange.specs.Answers.{cause_in}
use Rattle.exchange.specs.Slots.{slot_ticked, slot_heard}
use Rattle.exchange.specs.Books.{Mark, announced, closed, asked, waited, procedure_of, same, question, notes, named, completes, done_in}
use Rattle.exchange.proofs.Moves.{watch, watched, Move, stays, idles, waits, lapses, expires, repeats, advances, closes}

-- the marks of kind k, in the books of kind j
abbrev pub only : Kind → Kind → List Mark → List Mark
only k j ms = cond (same k j) ms []

pub silence : (k j : Kind) → [] ≡ only k j []
silence k j = cond_both (same k j) _ _ (λ ms. [] ≡ ms) (λ _. refl) (λ _. refl)

low_code : (p : Procedure) → code_of p < 16
low_code Offering = omega arith
low_code RateControl = omega arith
low_code TimeAlignment = omega arith
low_code ErrorEvent = omega arith

-- a question frame is read as one of its kind, with its number
pub read : (p : Procedure) (k j : Kind) (m : ℕ) (payload : List ℕ) → code_of p ≡ procedure_of k → m < 4 → question j (question_frame (code_of p) (m % 4) payload) ≡ only k j (asked m ∷ [])
read p k j m payload coded lt =
    let below = low_code p in
    let head : eqb ((224 + m % 4) / 4) 56 ≡ true = eq-eqb _ 56 (omega arith) in
    let low : (224 + m % 4) % 4 ≡ m = omega arith in
    let code : code_of p % 16 ≡ procedure_of k = omega arith in
    rw (head, low, code)

pub saying : (j : Kind) (b : Bool) (f : List ℕ) → named j (sending b f ∷ []) ≡ question j f
saying j true f = append-nil (question j f)
saying j false f = append-nil (question j f)

pub undone : (j : Kind) (b : Bool) (f : List ℕ) → done_in j (sending b f ∷ []) ≡ false
undone j true f = refl
undone j false f = refl

pub undelivered : (b : Bool) (f : List ℕ) → delivered_in (sending b f ∷ []) ≡ []
undelivered true f = refl
undelivered false f = refl

unended : (k j : Kind) (c : Ending) → completes c ≡ false → done_in j (Ended k c ∷ []) ≡ false
unended k j c e = ap (λ x. (same k j && x) || false) e ∙ ap (λ x. x || false) (and_right (same k j) false refl)

-- while it runs, nothing is named as done
abbrev pub Still : {Q : Type 0} → Option (Exchange Q) → List Happening → Type 0
Still None s = Unit {0}
Still (Some e) s = (j : Kind) → done_in j s ≡ false

-- the number of an exchange stays below 4
abbrev pub Asks : {Q : Type 0} → Option (Exchange Q) → Type 0
Asks None = Unit {0}
Asks (Some e) = e.number < 4

-- an exchange that goes on keeps its question, and none begins
abbrev pub Same : {Q : Type 0} → Option (Exchange Q) → Option (Exchange Q) → Type 0
Same None o = o ≡ None
Same (Some e) None = Unit {0}
Same (Some e) (Some x) = x.question ≡ e.question

-- an effect is a move of its own kind, behind what was marked before, and silent for the others
pub record Goes {Q A : Type 0} (limits : Limits) (k : Kind) (before : List Mark) (o : Option (Exchange Q)) (x : Effect (Option (Exchange Q)) A) : Type 0 where
  pub marks : List Mark
  pub move : Move limits.ticks limits.repeats (watched o) (before ++ marks) (watched x.next)
  pub says : (j : Kind) → named j x.says ≡ only k j marks
  pub asks : Asks x.next
  pub steady : Same o x.next
  pub still : Still x.next x.says
  -- only its own kind is named as done
  pub other : (j : Kind) → same k j ≡ false → done_in j x.says ≡ false
  pub plain : delivered_in x.says ≡ []
  pub few : length x.says ≤ 1

finishes : (k j : Kind) (c : Ending) → named j (Ended k c ∷ []) ≡ only k j (closed ∷ [])
finishes k j c = append-nil (only k j (closed ∷ []))

-- nothing is said
silent : {Q A : Type 0} (limits : Limits) (k : Kind) (before : List Mark) (e x : Exchange Q) (a : A) → x.number < 4 → x.question ≡ e.question → Move limits.ticks limits.repeats (Some (watch e)) (before ++ []) (Some (watch x)) → Goes limits k before (Some e) (record { next = Some x; says = []; answer = a })
silent limits k before e x a h q m = record { marks = []; move = m; says = λ j. silence k j; asks = h; steady = q; still = λ j. refl; other = λ j _. refl; plain = refl; few = omega arith }

module _ {Q A : Type 0} (procedure : Procedure) (kind : Kind) (asks frames : Q → ℕ → List ℕ) (follows : Q → ℕ → Bool) (unanswered declined : Ending) (turns : A → Turn) (proper : Proper procedure kind asks frames follows unanswered declined turns) (limits : Limits) where
  pub framing : (j : Kind) (q : Q) (m : ℕ) → m < 4 → question j (frames q m) ≡ only kind j (asked m ∷ [])
  framing j q m h = rw (proper.asked q m) (read procedure kind j m (asks q m) proper.coded h)

  -- a question is asked for the first time
  pub beginning : (j : Kind) (q : Q) (m : ℕ) → m < 4 → named j (Started kind ∷ HandedOver (frames q m) ∷ []) ≡ only kind j (announced ∷ asked m ∷ [])
  beginning j q m h = rw (framing j q m h) (cond_both (same kind j) _ _ (λ ms. only kind j (announced ∷ []) ++ (ms ++ []) ≡ only kind j (announced ∷ asked m ∷ [])) (λ e. rw e refl) (λ e. rw e refl))

  module _ (takes : ℕ → Bool) where
    pub sends : (j : Kind) (e : Exchange Q) → e.number < 4 → named j (sent frames takes e).says ≡ only kind j (asked e.number ∷ [])
    sends j e h = saying j (takes (length (frames e.question e.number))) (frames e.question e.number) ∙ framing j e.question e.number h

    unsent : (e : Exchange Q) (j : Kind) → done_in j (sent frames takes e).says ≡ false
    unsent e j = undone j (takes _) (frames e.question e.number)

    unbrought : (e : Exchange Q) → delivered_in (sent frames takes e).says ≡ []
    unbrought e = undelivered (takes _) (frames e.question e.number)

    fallen : (before : List Mark) (e : Exchange Q) (c : Ending) → completes c ≡ false → Move limits.ticks limits.repeats (Some (watch e)) (before ++ closed ∷ []) None → Goes limits kind before (Some e) (ends frames kind c)
    fallen before e c d m =
        record { marks = closed ∷ []; move = m; says = λ j. finishes kind j c; asks = tt; steady = tt; still = tt; other = λ j _. unended kind j c d; plain = refl; few = omega arith }

    resent : (before : List Mark) (e x : Exchange Q) → x.number < 4 → x.question ≡ e.question → Move limits.ticks limits.repeats (Some (watch e)) (before ++ asked x.number ∷ []) (Some (watch x)) → Goes limits kind before (Some e) (Asking.goes_on frames kind takes limits x)
    resent before e x h q m =
        record { marks = asked x.number ∷ []; move = m; says = λ j. sends j x h; asks = h; steady = q; still = unsent x; other = λ j _. unsent x j; plain = unbrought x; few = omega arith }

    repeating : (c : Ending) (e : Exchange Q) → completes c ≡ false → e.number < 4 → Goes limits kind [] (Some e) (again frames kind takes limits c e)
    repeating c e d h =
        cond_both (ltb e.repeats limits.repeats) _ _ (Goes limits kind [] (Some e))
        (λ lt. resent [] e _ h refl (repeats (ltb-true e.repeats limits.repeats lt)))
        (λ _. fallen [] e c d closes)

    lapsing : (c : Ending) (e : Exchange Q) → completes c ≡ false → e.number < 4 → Goes limits kind (waited ∷ []) (Some e) (again frames kind takes limits c e)
    lapsing c e d h =
        cond_both (ltb e.repeats limits.repeats) _ _ (Goes limits kind (waited ∷ []) (Some e))
        (λ lt. resent (waited ∷ []) e _ h refl (lapses (ltb-true e.repeats limits.repeats lt)))
        (λ _. fallen (waited ∷ []) e c d expires)

    pub ticking : (e : Exchange Q) → e.number < 4 → Goes limits kind (waited ∷ []) (Some e) (ticked frames kind takes limits unanswered e)
    ticking e h =
        cond_both (ltb 1 e.ticks) _ _ (Goes limits kind (waited ∷ []) (Some e))
        (λ lt. silent limits kind (waited ∷ []) e _ tt h refl (waits (ltb-true 1 e.ticks lt)))
        (λ _. lapsing unanswered e proper.lapsing h)

    -- a tick never names anything as done
    pub unticked : (e : Exchange Q) (j : Kind) → done_in j (ticked frames kind takes limits unanswered e).says ≡ false
    unticked e j =
        cond_both (ltb 1 e.ticks) _ _ (λ (x : Effect (Option (Exchange Q)) (Unit {0})). done_in j x.says ≡ false) (λ _. refl)
        (λ _. cond_both (ltb e.repeats limits.repeats) _ _ (λ (x : Effect (Option (Exchange Q)) (Unit {0})). done_in j x.says ≡ false) (λ _. undone j (takes _) (frames e.question e.number)) (λ _. unended kind j unanswered proper.lapsing))

    followed : (e : Exchange Q) → e.number < 4 → follows e.question e.number ≡ true → Goes limits kind [] (Some e) (Asking.goes_on frames kind takes limits (begun e.question (e.number + 1) limits))
    followed e h d =
        let lt : e.number + 1 < 4 = omega (arith, proper.few e.question e.number d) in
        resent [] e (begun e.question (e.number + 1) limits) lt refl advances

    ended : (e : Exchange Q) → Goes limits kind [] (Some e) (ends frames kind Done)
    ended e = record { marks = closed ∷ []; move = closes; says = λ j. finishes kind j Done; asks = tt; steady = tt; still = tt; other = λ j d. ap (λ b. (b && true) || false) d; plain = refl; few = omega arith }

    pub turning : (v : Turn) (e : Exchange Q) → Fails v → e.number < 4 → Goes limits kind [] (Some e) (turned frames kind takes limits follows declined v e)
    turning Again e d h = repeating declined e proper.declining h
    turning (Stop c) e d h = fallen [] e c d closes
    turning Onward e d h = cond_both (follows e.question e.number) _ _ (Goes limits kind [] (Some e)) (followed e h) (λ _. ended e)

    leading : (answer : Result A Refusal) → Fails (leads turns answer)
    leading (Ok a) = proper.stopping a
    leading (Err e) = tt

    pub hearing : {B : Type 0} (answer : Result A Refusal) (told : Result B Refusal) (number : ℕ) (e : Exchange Q) → e.number < 4 → Goes limits kind [] (Some e) (heard frames kind takes limits follows declined (leads turns answer) told number e)
    hearing answer told number e h =
        let g = turning (leads turns answer) e (leading answer) h in
        cond_both (eqb e.number number) _ _ (Goes limits kind [] (Some e))
        (λ _. record { marks = g.marks; move = g.move; says = g.says; asks = g.asks; steady = g.steady; still = g.still; other = g.other; plain = g.plain; few = g.few })
        (λ _. silent limits kind [] e e _ h refl stays)

    -- where one runs, and where none does
    pub slot_ticking : (o : Option (Exchange Q)) → Asks o → Goes limits kind (waited ∷ []) o (slot_ticked frames kind takes limits unanswered o)
    slot_ticking None h = record { marks = []; move = idles; says = λ j. silence kind j; asks = tt; steady = refl; still = tt; other = λ j _. refl; plain = refl; few = omega arith }
    slot_ticking (Some e) h = ticking e h

module _ {Q : Type 0} (procedure : Procedure) (kind : Kind) (asks frames : Q → ℕ → List ℕ) (follows : Q → ℕ → Bool) (unanswered declined : Ending) (turns : Option ℕ → Turn) (proper : Proper procedure kind asks frames follows unanswered declined turns) (limits : Limits) (takes : ℕ → Bool) where
  pub slot_hearing : (r : Reply) (o : Option (Exchange Q)) → Asks o → Goes limits kind [] o (slot_heard frames kind takes limits follows declined turns r o)
  slot_hearing r None h = record { marks = []; move = stays; says = λ j. silence kind j; asks = tt; steady = refl; still = tt; other = λ j _. refl; plain = refl; few = omega arith }
  slot_hearing r (Some e) h = hearing procedure kind asks frames follows unanswered declined turns proper limits takes (cause_in r) (cause_in r) r.number e h

pub named-++ : (k : Kind) (s u : List Happening) → named k (s ++ u) ≡ named k s ++ named k u
named-++ k [] u = refl
named-++ k (h ∷ s) u = ap (λ ms. notes k h ++ ms) (named-++ k s u) ∙ sym (append_assoc (notes k h) (named k s) (named k u))
