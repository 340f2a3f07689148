-- What a bearer does is of no procedure, keeps the set in force, and delivers only what fits it.
use Rattle.std.proofs.Common.{◌≡◌, ℕ, ◌≤◌, Bool, false, eqb, ltb, List, [], ◌∷◌, length, Some, None, Ok, Err, Option, Result, sym, refl, ap, ◌∙◌, subst, append-nil, arith}
use Rattle.std.proofs.lemmas.Bool.{cond_both}
use Rattle.frames.specs.declared.refusal.Refusal.{Refusal}
use Rattle.frames.specs.declared.refusal.Refusal.TheVariants.{WrongPhase, LineDeclines, ValueRange}
use Rattle.frames.specs.DataTypes.{data_number}
use Rattle.building.specs.Building.{error_frame}
use Rattle.sets.specs.Contents.{Contents}
use Rattle.set_in_force.specs.declared.place.Found.{Found}
use Rattle.set_in_force.specs.Looks.{looked_up}
use Rattle.reports.specs.declared.ending.Kind.{Kind}
use Rattle.reports.specs.declared.happening.Delivery.{Delivery}
use Rattle.reports.specs.Said.{delivered_in}
use Rattle.reports.specs.Effects.{Effect, refuses}
use Rattle.exchange.specs.Books.{question, named, done_in}
use Rattle.exchange.proofs.Exchanging.{saying, undone, undelivered}
use Rattle.bearer.specs.declared.settings.Settings.{Settings}
use Rattle.bearer.specs.declared.settings.Numbering.{Numbering}
use Rattle.bearer.specs.declared.settings.Numbering.TheVariants.{Timed, Counted}
use Rattle.bearer.specs.Bearing.{Bearing, Force, standing}
use Rattle.bearer.specs.Errors.{event, cause_of, objects_by, objects, reported}
use Rattle.bearer.specs.Traffics.{Data, numbered, frame_for, passes, data_on, data_sent, expected_next, fitted, quality_of, brings, brought_with, brought_of, counting, told_on, told_of, counting_on, got_as, got}
use Rattle.bearer.specs.Ledgers.{Cut, Borne}
use Rattle.bearer.proofs.Unasked.{no_question, Bland, bland_as}
use Rattle.bearer.proofs.Cutting.{cut_at}

pub record Carries {A : Type 0} (b : Bearing) (f : Effect Bearing A) : Type 0 where
  pub settings : f.next.settings ≡ b.settings
  pub set : standing f.next.force ≡ standing b.force
  pub names : (k : Kind) → named k f.says ≡ []
  pub done : (k : Kind) → done_in k f.says ≡ false
  pub borne : Borne (standing b.force) (delivered_in f.says)
  pub few : length f.says ≤ 2

pub none_borne : (o : Option Contents) (ds : List Delivery) → ds ≡ [] → Borne o ds
none_borne o ds e = subst (Borne o) (sym e) tt

refusing : {A : Type 0} (b : Bearing) (e : Refusal) → Carries {A = Result A Refusal} b (refuses b e)
refusing b e = record { settings = refl; set = refl; names = λ k. refl; done = λ k. refl; borne = tt; few = omega arith }

silent : (takes : ℕ → Bool) (cause : ℕ) (b : Bearing) (k : Kind) → named k (event takes cause b ∷ []) ≡ []
silent takes cause b k = saying k (takes (length (error_frame b.events 0 cause))) (error_frame b.events 0 cause) ∙ no_question k b.events 0 cause

quiet : (takes : ℕ → Bool) (cause : ℕ) (b : Bearing) → delivered_in (event takes cause b ∷ []) ≡ []
quiet takes cause b = undelivered (takes (length (error_frame b.events 0 cause))) (error_frame b.events 0 cause)

unnamed : (takes : ℕ → Bool) (cause : ℕ) (b : Bearing) (k : Kind) → done_in k (event takes cause b ∷ []) ≡ false
unnamed takes cause b k = undone k (takes (length (error_frame b.events 0 cause))) (error_frame b.events 0 cause)

objecting_by : {A : Type 0} (takes : ℕ → Bool) (o : Option ℕ) (e : Refusal) (b : Bearing) → Carries {A = Result A Refusal} b (objects_by takes o e b)
objecting_by takes None e b = refusing b e
objecting_by takes (Some cause) e b =
    record { settings = refl; set = refl; names = silent takes cause b; done = unnamed takes cause b; borne = none_borne (standing b.force) _ (quiet takes cause b); few = omega arith }

pub objecting : {A : Type 0} (takes : ℕ → Bool) (e : Refusal) (b : Bearing) → Carries {A = Result A Refusal} b (objects takes e b)
objecting takes e b = objecting_by takes (cause_of e) e b

pub reporting : (takes : ℕ → Bool) (cause : ℕ) (b : Bearing) → Carries b (reported takes cause b)
reporting takes cause b =
    cond_both (ltb 63 cause) _ _ (Carries b) (λ _. refusing b ValueRange)
    (λ _. cond_both (takes (length (error_frame b.events 1 cause))) _ _ (Carries b)
    (λ _. record { settings = refl; set = refl; names = λ k. append-nil (question k (error_frame b.events 1 cause)) ∙ no_question k b.events 1 cause; done = λ k. refl; borne = tt; few = omega arith })
    (λ _. refusing b LineDeclines))

numbered_set : (m by : Numbering) (x : Force) → (numbered m by x).set ≡ x.set
numbered_set Counted Counted x = refl
numbered_set Counted Timed x = refl
numbered_set Timed Counted x = refl
numbered_set Timed Timed x = refl

passing : (takes : ℕ → Bool) (b : Bearing) (x : Force) (f : Result (List ℕ) Refusal) → b.force ≡ Some x → Bland f → Carries b (passes takes b x f)
passing takes b x (Err e) is h = refusing b e
passing takes b x (Ok f) is h =
    cond_both (takes (length f)) _ _ (Carries b)
    (λ _. record { settings = refl; set = ap Some (numbered_set b.settings.numbering Counted x) ∙ sym (ap standing is); names = λ k. append-nil (question k f) ∙ h k; done = λ k. refl; borne = tt; few = omega arith })
    (λ _. refusing b LineDeclines)

sending_on : (takes : ℕ → Bool) (rfci fqc : ℕ) (payload : List ℕ) (b : Bearing) (o : Option Force) → b.force ≡ o → Carries b (data_on takes rfci fqc payload b o)
sending_on takes rfci fqc payload b None is = refusing b WrongPhase
sending_on takes rfci fqc payload b (Some x) is = passing takes b x (frame_for rfci fqc payload x) is (bland_as rfci fqc payload x (looked_up rfci x.set.combinations))

pub sending_data : (takes : ℕ → Bool) (rfci fqc : ℕ) (payload : List ℕ) (b : Bearing) → Carries b (data_sent takes rfci fqc payload b)
sending_data takes rfci fqc payload b = sending_on takes rfci fqc payload b b.force refl

-- what is told as a delivery is cut as the set in force says
module _ (s : Settings) (d : Data) (t : Delivery) where
  cut_with : (x : Force) (c : Found) (r : Result (Unit {0}) Refusal) (q : Result ℕ Refusal) → looked_up d.header.rfci x.set.combinations ≡ Some c → brought_with d s.numbering x c r q ≡ Ok t → Cut x.set.combinations t
  cut_with x c (Err e) q is h = let z : ◌≡◌ {A = ℕ} 0 1 = cc in absurd (omega arith)
  cut_with x c (Ok u) (Err e) is h = let z : ◌≡◌ {A = ℕ} 0 1 = cc in absurd (omega arith)
  cut_with x c (Ok u) (Ok fqc) is h = let same : brings d s.numbering x c fqc ≡ t = cc in subst (Cut x.set.combinations) same (cut_at x.set.combinations (brings d s.numbering x c fqc) c _ refl is refl)

  cut_of : (x : Force) (o : Option Found) → looked_up d.header.rfci x.set.combinations ≡ o → brought_of s d x o ≡ Ok t → Cut x.set.combinations t
  cut_of x None is h = let z : ◌≡◌ {A = ℕ} 0 1 = cc in absurd (omega arith)
  cut_of x (Some c) is h = cut_with x c (fitted (length d.payload) c.bits) (quality_of s.keep_damaged d) is h

  borne_on : (o : Option Force) → told_on s d o ≡ Ok t → Borne (standing o) (t ∷ [])
  borne_on None h = let z : ◌≡◌ {A = ℕ} 0 1 = cc in absurd (omega arith)
  borne_on (Some x) h =
      cond_both (eqb (data_number d.header.data_type) (data_number x.set.opening.data_type)) _ _ (λ r. r ≡ Ok t → Borne (Some x.set) (t ∷ []))
      (λ _ e. (cut_of x (looked_up d.header.rfci x.set.combinations) refl e, tt))
      (λ _ e. let z : ◌≡◌ {A = ℕ} 0 1 = cc in absurd (omega arith)) h

next_set : (m : Numbering) (n : ℕ) (x : Force) → (expected_next m n x).set ≡ x.set
next_set Counted n x = refl
next_set Timed n x = refl

counting_set : (m : Numbering) (d : Data) (t : Delivery) (o : Option Force) → standing (counting_on m d (Ok t) o) ≡ standing o
counting_set m d t None = refl
counting_set m d t (Some x) = ap Some (next_set m d.header.number x)

delivering : (takes : ℕ → Bool) (d : Data) (t : Delivery) (b : Bearing) → Borne (standing b.force) (t ∷ []) → Carries b (got_as takes d (Ok t) b)
delivering takes d t b borne =
    let b' = counting d (Ok t) b in
    let set = counting_set b.settings.numbering d t b.force in
    cond_both (eqb t.gap 0) _ _ (λ (f : Effect Bearing (Unit {0})). Carries {A = Result (Unit {0}) Refusal} b (record { next = f.next; says = f.says; answer = Ok tt }))
    (λ _. record { settings = refl; set = set; names = λ k. refl; done = λ k. refl; borne = borne; few = omega arith })
    (λ _. record { settings = refl; set = set; names = silent takes 3 b'; done = unnamed takes 3 b'; borne = subst (λ ds. Borne (standing b.force) (t ∷ ds)) (sym (quiet takes 3 b')) borne; few = omega arith })

getting_as : (takes : ℕ → Bool) (d : Data) (r : Result Delivery Refusal) (b : Bearing) → told_of d b ≡ r → Carries b (got_as takes d r b)
getting_as takes d (Err e) b is = objecting takes e b
getting_as takes d (Ok t) b is = delivering takes d t b (borne_on b.settings d t b.force is)

pub getting : (takes : ℕ → Bool) (d : Data) (b : Bearing) → Carries b (got takes d b)
getting takes d b = getting_as takes d (told_of d b) b refl
