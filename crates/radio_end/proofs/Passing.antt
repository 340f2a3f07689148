-- What a tick does, for the ledger.
use Rattle.std.proofs.Common.{◌≡◌, ℕ, ◌≤◌, Bool, true, ◌||◌, List, [], ◌∷◌, ◌++◌, length, is_some, Some, None, Option, sym, refl, ◌∙◌, subst, ap₂, append-nil, length-append, arith}
use Rattle.frames.specs.declared.procedure.Procedure.TheVariants.{RateControl as Rating, TimeAlignment as Aligning}
use Rattle.frames.specs.declared.procedure.Procedure.TheVariants.{Initialisation as Offering}
use Rattle.sets.specs.Contents.{Contents}
use Rattle.reports.specs.declared.ending.Kind.TheVariants.{Initialisation, RateControl, TimeAlignment}
use Rattle.reports.specs.declared.ending.Ending.TheVariants.{NoAnswer, Rejected, RateFailure, AlignmentFailure}
use Rattle.reports.specs.declared.happening.Happening.{Happening}
use Rattle.reports.specs.Said.{delivered_in}
use Rattle.reports.specs.Effects.{Effect}
use Rattle.reports.proofs.Noting.{delivered_in_append}
use Rattle.exchange.specs.declared.exchange.Exchange.{Exchange}
use Rattle.exchange.specs.Slots.{slot_ticked}
use Rattle.exchange.specs.Books.{waited, named}
use Rattle.exchange.proofs.Moves.{watched, Move, idles}
use Rattle.exchange.proofs.Exchanging.{Asks, Same, slot_ticking, unticked, named-++}
use Rattle.exchange.proofs.Exchanging as Exchanging
use Rattle.questions.specs.Answering.{acceptance_leads, alignment_turns}
use Rattle.questions.specs.Kinds.{links_asked, links_frames, links_follow, rate_asked, rate_frames, alignment_asked, alignment_frames, alone}
use Rattle.questions.proofs.Proper.{links_proper, rate_proper, alignment_proper}
use Rattle.bearer.specs.declared.settings.Numbering.{Numbering}
use Rattle.bearer.specs.declared.settings.Numbering.TheVariants.{Timed, Counted}
use Rattle.bearer.specs.Bearing.{Force, standing}
use Rattle.bearer.specs.Traffics.{time_passed}
use Rattle.bearer.proofs.Sayings.{done_in-++}
use Rattle.bearer.proofs.Carrying.{none_borne}
use Rattle.radio_end.specs.Radio.{Radio}
use Rattle.radio_end.specs.Steps.{with_running, timed, links_ticked, rate_ticked, alignment_ticked}
use Rattle.radio_end.specs.Ledger.{settled}
use Rattle.radio_end.proofs.Going.{Alone, Sound, Offer, Goes, unsettled}
use Rattle.radio_end.proofs.Hearing.{offer_on}

time_set : (m : Numbering) (f : Option Force) → standing (time_passed m f) ≡ standing f
time_set m None = refl
time_set Counted (Some x) = refl
time_set Timed (Some x) = refl

-- what a tick that says s does
abbrev pub Ticked : Radio → List Happening → Radio → Type 0
Ticked r s r' = Goes r (λ k. waited ∷ named k s) s (settled s) r'

idle_none : {Q : Type 0} (t n : ℕ) (o : Option (Exchange Q)) → o ≡ None → Move t n (watched o) (waited ∷ []) (watched o)
idle_none t n o e = subst (λ o. Move t n (watched o) (waited ∷ []) (watched o)) (sym e) idles

alone_on : (w : Option (Exchange Contents)) (o o' : Option Contents) (x : Option (Exchange (List Bool))) (y : Option (Exchange ℕ)) → o' ≡ o → (o ≡ None) × (x ≡ None) × (y ≡ None) → Alone w o' x y
alone_on None o o' x y e h = tt
alone_on (Some w) o o' x y e h = (e ∙ h.0, h.1, h.2)

-- an initialisation, alone
ticking_links : (takes : ℕ → Bool) (r : Radio) (e : Exchange Contents) → r.links ≡ Some e → Sound r
    → (let f = slot_ticked links_frames Initialisation takes r.bearing.settings.initialisation NoAnswer (Some e) in Ticked r f.says (record (timed r) { links = f.next }))
ticking_links takes r e is h =
    let f = slot_ticked links_frames Initialisation takes r.bearing.settings.initialisation NoAnswer (Some e) in
    let g = slot_ticking Offering Initialisation links_asked links_frames links_follow NoAnswer Rejected acceptance_leads links_proper r.bearing.settings.initialisation takes (Some e) (subst Asks is h.links) in
    let same = time_set r.bearing.settings.numbering r.bearing.force in
    let alone = subst (λ o. Alone o (standing r.bearing.force) r.rate.running r.alignment.running) is h.alone in
    record {
      settings = refl;
      sound = record { links = g.asks; rate = h.rate; alignment = h.alignment; rates = h.rates; alignments = h.alignments; alone = alone_on f.next (standing r.bearing.force) (standing (timed r).bearing.force) r.rate.running r.alignment.running same alone };
      links = rw (is, g.says Initialisation) g.move;
      rate = rw (g.says RateControl) (idle_none r.bearing.settings.rate.ticks r.bearing.settings.rate.repeats r.rate.running alone.1);
      alignment = rw (g.says TimeAlignment) (idle_none r.bearing.settings.alignment.ticks r.bearing.settings.alignment.repeats r.alignment.running alone.2);
      stored = unsettled r (record (timed r) { links = f.next }) f.says same (λ o c. offer_on e f.next o g.steady (subst (λ l. Offer l o) is c)) (unticked Offering Initialisation links_asked links_frames links_follow NoAnswer Rejected acceptance_leads links_proper r.bearing.settings.initialisation takes e Initialisation);
      borne = none_borne (standing r.bearing.force) (delivered_in f.says) g.plain;
      few = omega (arith, g.few);
    }

pub alone_fits : (takes : ℕ → Bool) (r : Radio) (o : Option (Exchange Contents)) → r.links ≡ o → is_some o ≡ true → Sound r → Ticked r (links_ticked takes (timed r)).says (links_ticked takes (timed r)).next
alone_fits takes r None is runs h = let z : ◌≡◌ {A = ℕ} 0 1 = cc in absurd (omega arith)
alone_fits takes r (Some e) is runs h =
    subst (λ o. let f = slot_ticked links_frames Initialisation takes r.bearing.settings.initialisation NoAnswer o in Ticked r f.says (record (timed r) { links = f.next })) (sym is) (ticking_links takes r e is h)

-- both of the others, rate first
module _ (r : Radio) (x : Effect (Option (Exchange (List Bool))) (Unit {0})) (y : Effect (Option (Exchange ℕ)) (Unit {0})) where
  ticking_both : r.links ≡ None
      → Exchanging.Goes r.bearing.settings.rate RateControl (waited ∷ []) r.rate.running x
      → Exchanging.Goes r.bearing.settings.alignment TimeAlignment (waited ∷ []) r.alignment.running y
      → Sound r → Ticked r (x.says ++ y.says) (record (timed r) { rate = with_running r.rate x.next; alignment = with_running r.alignment y.next })
  ticking_both none g p h =
      let s₁ = x.says in
      let s₂ = y.says in
      let same = time_set r.bearing.settings.numbering r.bearing.force in
      record {
        settings = refl;
        sound = record {
          links = h.links;
          rate = g.asks;
          alignment = p.asks;
          rates = h.rates;
          alignments = h.alignments;
          alone = subst (λ l. Alone l (standing (timed r).bearing.force) x.next y.next) (sym none) tt;
        };
        links = rw (named-++ Initialisation s₁ s₂, g.says Initialisation, p.says Initialisation) (idle_none r.bearing.settings.initialisation.ticks r.bearing.settings.initialisation.repeats r.links none);
        rate = rw (named-++ RateControl s₁ s₂, g.says RateControl, p.says RateControl, append-nil g.marks) g.move;
        alignment = rw (named-++ TimeAlignment s₁ s₂, g.says TimeAlignment, p.says TimeAlignment) p.move;
        stored = unsettled r (record (timed r) { rate = with_running r.rate x.next; alignment = with_running r.alignment y.next }) (s₁ ++ s₂) same (λ o e. e) (done_in-++ Initialisation s₁ s₂ ∙ ap₂ ◌||◌ (g.other Initialisation refl) (p.other Initialisation refl));
        borne = none_borne (standing r.bearing.force) (delivered_in (s₁ ++ s₂)) (delivered_in_append s₁ s₂ ∙ ap₂ ◌++◌ g.plain p.plain);
        few = omega (arith, g.few, p.few, length-append s₁ s₂);
      }

pub twice_fits : (takes takes' : ℕ → Bool) (r : Radio) → r.links ≡ None → Sound r
    → (let f = rate_ticked takes (timed r) in let f' = alignment_ticked takes' f.next in Ticked r (f.says ++ f'.says) f'.next)
twice_fits takes takes' r none h =
    ticking_both r (slot_ticked rate_frames RateControl takes r.bearing.settings.rate RateFailure r.rate.running) (slot_ticked alignment_frames TimeAlignment takes' r.bearing.settings.alignment AlignmentFailure r.alignment.running) none
    (slot_ticking Rating RateControl rate_asked rate_frames alone RateFailure RateFailure acceptance_leads rate_proper r.bearing.settings.rate takes r.rate.running h.rate)
    (slot_ticking Aligning TimeAlignment alignment_asked alignment_frames alone AlignmentFailure AlignmentFailure alignment_turns alignment_proper r.bearing.settings.alignment takes' r.alignment.running h.alignment) h

-- each of them says little
pub rate_few : (takes : ℕ → Bool) (r : Radio) → Sound r → length (rate_ticked takes (timed r)).says ≤ 1
rate_few takes r h =
    (slot_ticking Rating RateControl rate_asked rate_frames alone RateFailure RateFailure acceptance_leads rate_proper r.bearing.settings.rate takes r.rate.running h.rate).few

pub alignment_few : (takes : ℕ → Bool) (r : Radio) → Asks r.alignment.running → length (alignment_ticked takes r).says ≤ 1
alignment_few takes r h =
    (slot_ticking Aligning TimeAlignment alignment_asked alignment_frames alone AlignmentFailure AlignmentFailure alignment_turns alignment_proper r.bearing.settings.alignment takes r.alignment.running h).few
