-- A start, and what it names, whatever it overtakes.
use Rattle.std.proofs.Common.{◌≡◌, ℕ, Bool, true, false, List, [], ◌∷◌, ◌++◌, length, is_some, Some, None, Ok, Err, Option, Result, sym, refl, ap, ◌∙◌, subst, if◌then◌else◌}
use Rattle.frames.specs.declared.refusal.Refusal.{Refusal}
use Rattle.frames.specs.declared.refusal.Refusal.TheVariants.{WrongPhase, LinkTooLong, LineDeclines}
use Rattle.lines.specs.Meaning.{Passed}
use Rattle.sets.specs.Contents.{Contents}
use Rattle.reports.specs.declared.ending.Kind.TheVariants.{Initialisation, RateControl, TimeAlignment}
use Rattle.reports.specs.declared.happening.Happening.{Happening}
use Rattle.reports.specs.declared.happening.Happening.TheVariants.{Started, HandedOver}
use Rattle.reports.specs.Said.{sending, handed_in}
use Rattle.reports.specs.Effects.{Effect, Did, refuses, all_noted}
use Rattle.exchange.specs.declared.exchange.Exchange.{Exchange}
use Rattle.exchange.specs.Asking.{begun, asking}
use Rattle.questions.specs.Kinds.{links_frames, links_fit}
use Rattle.bearer.specs.Bearing.{with_force}
use Rattle.radio_end.specs.Radio.{Radio}
use Rattle.exchange.specs.Slots.{slot_started}
use Rattle.radio_end.specs.Steps.{with_running, overtaken, start_begun, started}

module _ (takes : ℕ → Bool) (c : Contents) (r : Radio) where
  tried : Bool → Effect Radio (Result (Unit {0}) Refusal)
  tried b = if b then start_begun takes c r else refuses r LineDeclines

  fitted : Bool → Effect Radio (Result (Unit {0}) Refusal)
  fitted b = if b then tried (takes (length (links_frames c 0))) else refuses r LinkTooLong

  started_as : (b : Bool) → is_some r.links ≡ false → links_fit c ≡ true → takes (length (links_frames c 0)) ≡ b → started takes c r ≡ (if b then start_begun takes c r else refuses r LineDeclines)
  unfolding tried fitted
  started_as b idle fit taken =
      ap (λ x. if x then refuses {A = Unit {0}} r WrongPhase else fitted (links_fit c)) idle ∙ ap fitted fit ∙ ap tried taken

handed_first : (x : Option (Exchange (List Bool))) (y : Option (Exchange ℕ)) (f : List ℕ) → handed_in (overtaken RateControl x ++ overtaken TimeAlignment y ++ Started Initialisation ∷ HandedOver f ∷ []) ≡ f ∷ []
handed_first None None f = refl
handed_first None (Some y) f = refl
handed_first (Some x) None f = refl
handed_first (Some x) (Some y) f = refl

noted_both : (s u r : List Happening) → all_noted (s ++ u) r ≡ all_noted u (all_noted s r)
noted_both [] u r = refl
noted_both (h ∷ s) u r = noted_both s u _

-- three things after the other, in a report that was cleared
in_turn : (s t u a b c d : List Happening) → a ≡ [] → b ≡ all_noted s a → c ≡ all_noted t b → d ≡ all_noted u c → d ≡ all_noted ((s ++ t) ++ u) []
in_turn s t u a b c d none first second third =
    third ∙ ap (all_noted u) (second ∙ ap (all_noted t) (first ∙ ap (all_noted s) none)) ∙ ap (all_noted u) (sym (noted_both s t [])) ∙ sym (noted_both (s ++ t) u [])

named_in_turn : (x : Option (Exchange (List Bool))) (y : Option (Exchange ℕ)) (h g : Happening) → all_noted ((overtaken RateControl x ++ overtaken TimeAlignment y) ++ h ∷ g ∷ []) [] ≡ all_noted (overtaken RateControl x ++ overtaken TimeAlignment y ++ h ∷ g ∷ []) []
named_in_turn None None h g = refl
named_in_turn None (Some y) h g = refl
named_in_turn (Some x) None h g = refl
named_in_turn (Some x) (Some y) h g = refl

module _ {L : Type 0} (waiting : L → List (List ℕ)) (takes : L → ℕ → Bool) (c : Contents) (r : Radio) (l : L) (first : Exchange Contents) where
  -- the line declines the first frame
  pub start_declined : (b : Bool) (s : List Happening) → is_some r.links ≡ false → links_fit c ≡ true → first ≡ begun c 0 r.bearing.settings.initialisation → b ≡ takes l (length (links_frames first.question first.number)) → b ≡ false → s ≡ []
      → Did waiting (started (takes l) c r) r (Err LineDeclines) l l [] s
  start_declined b s idle fit is taken declined none =
      let declines : takes l (length (links_frames c 0)) ≡ false = ap (λ (e : Exchange Contents). takes l (length (links_frames e.question e.number))) (sym is) ∙ sym taken ∙ declined in
      subst (λ (f : Effect Radio (Result (Unit {0}) Refusal)). Did waiting f r (Err LineDeclines) l l [] s) (sym (started_as (takes l) c r false idle fit declines))
      (record { next = refl; answer = refl; line = refl; says = none })

  -- it takes it
  pub start_did : (b : Bool) (s : Radio) (slot : Option (Exchange Contents)) (l' : L) (r0 r1 r2 r3 : List Happening)
      → is_some r.links ≡ false → links_fit c ≡ true → first ≡ begun c 0 r.bearing.settings.initialisation → b ≡ takes l (length (links_frames first.question first.number)) → b ≡ true
      → r0 ≡ [] → r1 ≡ all_noted (overtaken RateControl r.rate.running) r0 → r2 ≡ all_noted (overtaken TimeAlignment r.alignment.running) r1
      → Did waiting (slot_started links_frames Initialisation (takes l) first) slot tt l l' r2 r3
      → s ≡ record r { bearing = with_force None r.bearing; links = slot; rate = with_running r.rate None; alignment = with_running r.alignment None }
      → Did waiting (started (takes l) c r) s (Ok tt) l l' [] r3
  start_did b s slot l' r0 r1 r2 r3 idle fit is taken accepted none rate alignment did next =
      let f = links_frames c 0 in
      let takes_it : takes l (length f) ≡ true = ap (λ (e : Exchange Contents). takes l (length (links_frames e.question e.number))) (sym is) ∙ sym taken ∙ accepted in
      let named : asking links_frames (takes l) first ≡ HandedOver f = ap (asking links_frames (takes l)) is ∙ ap (λ b. sending b f) takes_it in
      let handed : handed_in (Started Initialisation ∷ asking links_frames (takes l) first ∷ []) ≡ handed_in (overtaken RateControl r.rate.running ++ overtaken TimeAlignment r.alignment.running ++ Started Initialisation ∷ HandedOver f ∷ []) =
      ap (λ h. handed_in (Started Initialisation ∷ h ∷ [])) named ∙ sym (handed_first r.rate.running r.alignment.running f) in
      let said : r3 ≡ all_noted (Started Initialisation ∷ HandedOver f ∷ []) r2 = did.says ∙ ap (λ h. all_noted (Started Initialisation ∷ h ∷ []) r2) named in
      subst (λ (x : Effect Radio (Result (Unit {0}) Refusal)). Did waiting x s (Ok tt) l l' [] r3) (sym (started_as (takes l) c r true idle fit takes_it))
      (record {
        next = next ∙ ap (λ o. record r { bearing = with_force None r.bearing; links = o; rate = with_running r.rate None; alignment = with_running r.alignment None }) (did.next ∙ ap Some is);
        answer = refl;
        line = subst (λ fs. Passed waiting l l' fs) handed did.line;
        says =
            in_turn (overtaken RateControl r.rate.running) (overtaken TimeAlignment r.alignment.running) (Started Initialisation ∷ HandedOver f ∷ []) r0 r1 r2 r3 none rate alignment said
            ∙ named_in_turn r.rate.running r.alignment.running (Started Initialisation) (HandedOver f);
      })
