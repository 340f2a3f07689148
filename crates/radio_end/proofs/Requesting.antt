-- What the requests do, for the ledger.
use Rattle.std.proofs.Common.{◌≡◌, ℕ, ◌<◌, ◌≤◌, Bool, false, cond, List, [], ◌∷◌, ◌++◌, length, is_some, Some, None, Ok, Err, Option, Result, sym, refl, ap, ◌∙◌, subst, arith}
use Rattle.std.proofs.lemmas.Bool.{cond_both}
use Rattle.frames.specs.declared.procedure.Procedure.{Procedure}
use Rattle.frames.specs.declared.procedure.Procedure.TheVariants.{RateControl as Rating, TimeAlignment as Aligning}
use Rattle.frames.specs.declared.refusal.Refusal.{Refusal}
use Rattle.frames.specs.declared.refusal.Refusal.TheVariants.{AlreadyRuns, LineDeclines}
use Rattle.frames.specs.declared.shift.Direction.{Direction}
use Rattle.frames.specs.Values.{shift_by}
use Rattle.sets.specs.Contents.{Contents}
use Rattle.reports.specs.declared.ending.Kind.{Kind}
use Rattle.reports.specs.declared.ending.Kind.TheVariants.{Initialisation, RateControl, TimeAlignment}
use Rattle.reports.specs.declared.ending.Ending.{Ending}
use Rattle.reports.specs.declared.ending.Ending.TheVariants.{RateFailure, AlignmentFailure}
use Rattle.reports.specs.declared.happening.Happening.{Happening}
use Rattle.reports.specs.declared.happening.Happening.TheVariants.{Started, HandedOver}
use Rattle.reports.specs.Said.{delivered_in}
use Rattle.reports.specs.Effects.{Effect, refuses}
use Rattle.exchange.specs.declared.answer.Turn.{Turn}
use Rattle.exchange.specs.declared.exchange.Exchange.{Exchange}
use Rattle.exchange.specs.declared.limits.Limits.{Limits}
use Rattle.exchange.specs.Asked.{Proper}
use Rattle.exchange.specs.Slots.{slot_begun, number_after}
use Rattle.exchange.specs.Books.{Mark, opened, announced, closed, asked, same, named, done_in}
use Rattle.exchange.proofs.Moves.{watched, Move, stays, begins, closes}
use Rattle.exchange.proofs.Exchanging.{only, silence, Asks, beginning}
use Rattle.questions.specs.Answering.{acceptance_leads, alignment_turns}
use Rattle.questions.specs.Kinds.{links_frames, links_fit, rate_asked, rate_frames, alignment_asked, alignment_frames, alone}
use Rattle.questions.proofs.Proper.{rate_proper, alignment_proper}
use Rattle.bearer.specs.Bearing.{Force, standing}
use Rattle.bearer.specs.Allowing.{allows_one}
use Rattle.bearer.specs.Ledgers.{granted}
use Rattle.bearer.proofs.Carrying.{none_borne}
use Rattle.radio_end.specs.Radio.{Radio}
use Rattle.radio_end.specs.Steps.{overtaken, marks_for, start_begun, started, rated_on, rated, aligned_by, aligned_on, aligned}
use Rattle.radio_end.specs.Runs.{Call, start, rate, align}
use Rattle.radio_end.specs.Ledger.{marks, after}
use Rattle.radio_end.proofs.Going.{Alone, Sound, Goes, Part, unmoved, on_rate, on_alignment, lone}

-- what a call with this effect does
abbrev pub Fits : {A : Type 0} → Radio → (A → List Happening → Call) → Effect Radio A → Type 0
Fits r call f = Goes r (λ k. marks k (call f.answer f.says)) f.says (after (call f.answer f.says)) f.next

-- Start
abbrev says : Contents → Option (Exchange (List Bool)) → Option (Exchange ℕ) → List Happening
says c x y = overtaken RateControl x ++ overtaken TimeAlignment y ++ Started Initialisation ∷ HandedOver (links_frames c 0) ∷ []

abbrev ending : {Q : Type 0} → Option (Exchange Q) → List Mark
ending None = []
ending (Some a) = closed ∷ []

ends : {Q : Type 0} (t n : ℕ) (o : Option (Exchange Q)) → Move t n (watched o) (ending o) None
ends t n None = stays
ends t n (Some a) = closes

record Says (c : Contents) (x : Option (Exchange (List Bool))) (y : Option (Exchange ℕ)) : Type 0 where
  links : named Initialisation (says c x y) ≡ announced ∷ asked 0 ∷ []
  rate : named RateControl (says c x y) ≡ ending x
  alignment : named TimeAlignment (says c x y) ≡ ending y
  done : done_in Initialisation (says c x y) ≡ false
  plain : delivered_in (says c x y) ≡ []
  few : length (says c x y) ≤ 4

saying_start : (c : Contents) (x : Option (Exchange (List Bool))) (y : Option (Exchange ℕ)) → Says c x y
saying_start c None None = record { links = refl; rate = refl; alignment = refl; done = refl; plain = refl; few = omega arith }
saying_start c None (Some y) = record { links = refl; rate = refl; alignment = refl; done = refl; plain = refl; few = omega arith }
saying_start c (Some x) None = record { links = refl; rate = refl; alignment = refl; done = refl; plain = refl; few = omega arith }
saying_start c (Some x) (Some y) = record { links = refl; rate = refl; alignment = refl; done = refl; plain = refl; few = omega arith }

beginning_links : (takes : ℕ → Bool) (c : Contents) (r : Radio) → r.links ≡ None → Sound r → Fits r (start c) (start_begun takes c r)
beginning_links takes c r idle h =
    let g = saying_start c r.rate.running r.alignment.running in
    record {
      settings = refl;
      sound = record { links = omega arith; rate = tt; alignment = tt; rates = h.rates; alignments = h.alignments; alone = (refl, refl, refl) };
      links = rw (idle, g.links) (begins refl refl);
      rate = rw g.rate (ends r.bearing.settings.rate.ticks r.bearing.settings.rate.repeats r.rate.running);
      alignment = rw g.alignment (ends r.bearing.settings.alignment.ticks r.bearing.settings.alignment.repeats r.alignment.running);
      stored = λ z st. record { force = ap (λ d. cond d (Some c) None) (sym g.done); offer = refl };
      borne = none_borne (standing r.bearing.force) (delivered_in (says c r.rate.running r.alignment.running)) g.plain;
      few = g.few;
    }

pub none_of : {A : Type 0} (o : Option A) → is_some o ≡ false → o ≡ None
none_of None e = refl
none_of (Some a) e = let z : ◌≡◌ {A = ℕ} 0 1 = cc in absurd (omega arith)

pub started-fits : (takes : ℕ → Bool) (c : Contents) (r : Radio) → Sound r → Fits r (start c) (started takes c r)
started-fits takes c r h =
    cond_both (is_some r.links) _ _ (Fits r (start c)) (λ _. unmoved r h)
    (λ idle. cond_both (links_fit c) _ _ (Fits r (start c))
    (λ _. cond_both (takes (length (links_frames c 0))) _ _ (Fits r (start c)) (λ _. beginning_links takes c r (none_of r.links idle) h) (λ _. unmoved r h))
    (λ _. unmoved r h))

-- a question of any kind that is asked for the first time
module _ {Q A : Type 0} (procedure : Procedure) (kind : Kind) (asks frames : Q → ℕ → List ℕ) (follows : Q → ℕ → Bool) (unanswered declined : Ending) (turns : A → Turn) (proper : Proper procedure kind asks frames follows unanswered declined turns) (limits : Limits) (takes : ℕ → Bool) where
  granting : (j : Kind) (m : ℕ) → only kind j (opened ∷ []) ++ only kind j (announced ∷ asked m ∷ []) ≡ only kind j (opened ∷ announced ∷ asked m ∷ [])
  granting j m = cond_both (same kind j) _ _ (λ ms. only kind j (opened ∷ []) ++ only kind j (announced ∷ asked m ∷ []) ≡ ms) (λ e. rw e refl) (λ e. rw e refl)

  refused : (o : Option (Exchange Q)) (e : Refusal) → Asks o → Part limits kind (λ j. []) o (refuses {A = Unit {0}} o e)
  refused o e h = record { all = []; move = stays; marks = λ j. silence kind j; asks = h; undone = refl; plain = refl; few = omega arith }

  -- its marks in the books of each kind, whether it is asked or refused
  asked_in : (q : Q) (m : ℕ) (o : Option (Exchange Q)) → m < 4 → Asks o → Part limits kind (λ j. granted j kind (slot_begun frames kind takes limits q m o).answer ++ named j (slot_begun frames kind takes limits q m o).says) o (slot_begun frames kind takes limits q m o)
  asked_in q m (Some e) lt h = refused (Some e) AlreadyRuns h
  asked_in q m None lt h =
      cond_both (takes (length (frames q m))) _ _ (λ (x : Effect (Option (Exchange Q)) (Result (Unit {0}) Refusal)). Part limits kind (λ j. granted j kind x.answer ++ named j x.says) None x)
      (λ _. record {
        all = opened ∷ announced ∷ asked m ∷ [];
        move = begins refl refl;
        marks = λ j. ap (λ ns. only kind j (opened ∷ []) ++ ns) (beginning procedure kind asks frames follows unanswered declined turns proper limits j q m lt) ∙ granting j m;
        asks = lt;
        undone = refl;
        plain = refl;
        few = omega arith;
      })
      (λ _. refused None LineDeclines h)

number_low : {A : Type 0} (a : Result A Refusal) (n : ℕ) → n < 4 → number_after a n < 4
number_low (Ok a) n h = omega arith
number_low (Err e) n h = h

-- a set in force stands beside whatever is asked
free : (r : Radio) (x : Force) (x' : Option (Exchange (List Bool))) (y' : Option (Exchange ℕ)) → r.bearing.force ≡ Some x → Sound r → Alone r.links (standing r.bearing.force) x' y'
free r x x' y' is h = subst (λ o. Alone r.links (standing o) x' y') (sym is) (lone r.links x.set r.rate.running x' r.alignment.running y' (subst (λ o. Alone r.links (standing o) r.rate.running r.alignment.running) is h.alone))

-- Rate
rating : (takes : ℕ → Bool) (bars : List Bool) (r : Radio) (o : Option Force) → r.bearing.force ≡ o → Sound r → Fits r (rate bars) (rated_on takes bars r o)
rating takes bars r None is h = unmoved r h
rating takes bars r (Some x) is h =
    let q = marks_for bars x in
    let l = r.bearing.settings.rate in
    let f = slot_begun rate_frames RateControl takes l q r.rate.next r.rate.running in
    cond_both (is_some r.rate.running) _ _ (Fits r (rate bars)) (λ _. unmoved r h)
    (λ _. cond_both (allows_one bars x.set.combinations) _ _ (Fits r (rate bars))
    (λ _. on_rate r (λ k. marks k (rate bars f.answer f.says)) f (number_after f.answer r.rate.next) (asked_in Rating RateControl rate_asked rate_frames alone RateFailure RateFailure acceptance_leads rate_proper l takes q r.rate.next r.rate.running h.rates h.rate) (number_low f.answer r.rate.next h.rates) (free r x f.next r.alignment.running is h) h)
    (λ _. unmoved r h))

pub rated-fits : (takes : ℕ → Bool) (bars : List Bool) (r : Radio) → Sound r → Fits r (rate bars) (rated takes bars r)
rated-fits takes bars r h = rating takes bars r r.bearing.force refl h

-- Alignment
aligning_by : (takes : ℕ → Bool) (direction : Direction) (steps : ℕ) (r : Radio) (x : Force) (octet : Result ℕ Refusal) → r.bearing.force ≡ Some x → Sound r → Fits r (align direction steps) (aligned_by takes r octet)
aligning_by takes direction steps r x (Err e) is h = unmoved r h
aligning_by takes direction steps r x (Ok q) is h =
    let l = r.bearing.settings.alignment in
    let f = slot_begun alignment_frames TimeAlignment takes l q r.alignment.next r.alignment.running in
    on_alignment r (λ k. marks k (align direction steps f.answer f.says)) f (number_after f.answer r.alignment.next) (asked_in Aligning TimeAlignment alignment_asked alignment_frames alone AlignmentFailure AlignmentFailure alignment_turns alignment_proper l takes q r.alignment.next r.alignment.running h.alignments h.alignment) (number_low f.answer r.alignment.next h.alignments) (free r x r.rate.running f.next is h) h

aligning : (takes : ℕ → Bool) (direction : Direction) (steps : ℕ) (r : Radio) (o : Option Force) → r.bearing.force ≡ o → Sound r → Fits r (align direction steps) (aligned_on takes direction steps r o)
aligning takes direction steps r None is h = unmoved r h
aligning takes direction steps r (Some x) is h =
    cond_both (is_some r.alignment.running) _ _ (Fits r (align direction steps)) (λ _. unmoved r h) (λ _. aligning_by takes direction steps r x (shift_by direction steps) is h)

pub aligned-fits : (takes : ℕ → Bool) (direction : Direction) (steps : ℕ) (r : Radio) → Sound r → Fits r (align direction steps) (aligned takes direction steps r)
aligned-fits takes direction steps r h = aligning takes direction steps r r.bearing.force refl h
