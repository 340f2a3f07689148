-- The law of whole runs, call by call.
use Rattle.std.proofs.Common.{◌≡◌, ℕ, ◌≤◌, Bool, true, false, List, [], ◌∷◌, ◌++◌, length, is_some, Option, Result, sym, refl, ap, ◌∙◌, subst, append_assoc, append-nil, arith}
use lib.ListN as ListN
use Rattle.std.proofs.lemmas.List.{take_at}
use Rattle.frames.specs.declared.refusal.Refusal.{Refusal}
use Rattle.lines.specs.Meaning.{Passed, Took, roomy}
use Rattle.reports.specs.declared.ending.Kind.TheVariants.{Initialisation, RateControl, TimeAlignment}
use Rattle.reports.specs.declared.happening.Happening.{Happening}
use Rattle.reports.specs.Said.{handed_in, delivered_in}
use Rattle.reports.specs.Effects.{Effect}
use Rattle.reports.proofs.Noting.{did_say, handed_in_append}
use Rattle.exchange.specs.declared.limits.Limits.{Limits}
use Rattle.exchange.specs.Books.{Mark, Books, entered}
use Rattle.exchange.proofs.Moves.{Watch, watched, Move, Booked, moved, kept, blank_idle}
use Rattle.exchange.proofs.Exchanging.{Asks}
use Rattle.bearer.specs.declared.settings.Settings.{Settings}
use Rattle.bearer.specs.Errors.{reported}
use Rattle.bearer.specs.Traffics.{data_sent}
use Rattle.bearer.specs.Ledgers.{Borne, taken_out}
use Rattle.bearer.proofs.Carrying.{reporting, sending_data}
use Rattle.radio_end.specs.Radio.{Radio, On, opened}
use Rattle.radio_end.specs.Steps.{timed, links_ticked, rate_ticked, alignment_ticked}
use Rattle.radio_end.specs.Runs.{Call, start, rate, align, send, report, seek, receive, tick, take, Does, Ticks, Step, Run, none, then}
use Rattle.radio_end.specs.Ledger.{sayings, marks, books, after, sets, Fair, takes_out, taken, handed_over}
use Rattle.radio_end.specs.Law.{RunsHold}
use Rattle.radio_end.proofs.Going.{Sound, Stored, Goes, unmoved, as_it_was, carried}
use Rattle.radio_end.proofs.Requesting.{none_of, started-fits, rated-fits, aligned-fits}
use Rattle.radio_end.proofs.Hearing.{received-fits}
use Rattle.radio_end.proofs.Passing.{Ticked, alone_fits, twice_fits, rate_few, alignment_few}

opened-sound : (s : Settings) → Sound (opened s)
opened-sound s = record { links = tt; rate = tt; alignment = tt; rates = omega arith; alignments = omega arith; alone = tt }

module _ {L : Type 0} (waiting : L → List (List ℕ)) (takes : L → ℕ → Bool) where
  passed : (l l' : L) (fs : List (List ℕ)) → Passed waiting l l' fs → waiting l' ≡ waiting l ++ fs
  passed l l' [] h = ap waiting h ∙ sym (append-nil (waiting l))
  passed l l' (f ∷ fs) h = h

  -- what a call does to the end's meaning, and to the frames that wait
  record Shows (e : On Radio L) (c : Call) (e' : On Radio L) : Type 0 where
    goes : Goes e.state (λ k. marks k c) (sayings c) (after c) e'.state
    flows : takes_out c ++ waiting e'.line ≡ waiting e.line ++ handed_in (sayings c)

  -- a call's equations, put to use
  module _ {A : Type 0} (call : A → List Happening → Call) (says : (a : A) (s : List Happening) → sayings (call a s) ≡ s) (none_out : (a : A) (s : List Happening) → takes_out (call a s) ≡ []) where
    shown : (f : Effect Radio A) (e : On Radio L) (a : A) (s : List Happening) (e' : On Radio L) → Goes e.state (λ k. marks k (call f.answer f.says)) f.says (after (call f.answer f.says)) f.next → Does waiting f e a [] s e' → Shows e (call a s) e'
    shown f e a s e' g d =
        let said : s ≡ f.says = did_say waiting f e'.state a e.line e'.line [] s d (omega (arith, g.few)) in
        let went : Goes e.state (λ k. marks k (call a s)) s (after (call a s)) e'.state =
        subst (λ r'. Goes e.state (λ k. marks k (call a s)) s (after (call a s)) r') (sym d.next)
        (subst (λ a. Goes e.state (λ k. marks k (call a s)) s (after (call a s)) f.next) (sym d.answer) (subst (λ s. Goes e.state (λ k. marks k (call f.answer s)) s (after (call f.answer s)) f.next) (sym said) g)) in
        record {
          goes = subst (λ u. Goes e.state (λ k. marks k (call a s)) u (after (call a s)) e'.state) (sym (says a s)) went;
          flows =
              ap (λ x. x ++ waiting e'.line) (none_out a s)
              ∙ passed e.line e'.line _ d.line
              ∙ ap (λ u. waiting e.line ++ handed_in u) (sym said ∙ sym (says a s));
        }

  ticked : (b : Bool) (e : On Radio L) (s : List Happening) (e' : On Radio L) → is_some e.state.links ≡ b → Sound e.state → Ticks waiting takes b e s e' → Shows e (tick s) e'
  ticked true e s e' is h d =
      let f = links_ticked (takes e.line) (timed e.state) in
      let g = alone_fits (takes e.line) e.state e.state.links refl is h in
      let said : s ≡ f.says = did_say waiting f e'.state tt e.line e'.line [] s d (omega (arith, g.few)) in
      record {
        goes = subst (λ r'. Ticked e.state s r') (sym d.next) (subst (λ s. Ticked e.state s f.next) (sym said) g);
        flows = passed e.line e'.line _ d.line ∙ ap (λ u. waiting e.line ++ handed_in u) (sym said);
      }
  ticked false e s e' is h t =
      let m = t.between in
      let f = rate_ticked (takes e.line) (timed e.state) in
      let f' = alignment_ticked (takes m.line) m.state in
      let g = twice_fits (takes e.line) (takes m.line) e.state (none_of e.state.links is) h in
      let few₁ = rate_few (takes e.line) e.state h in
      let few₂ : length f'.says ≤ 1 = alignment_few (takes m.line) m.state (subst (λ (r : Radio). Asks r.alignment.running) (sym t.first.next) h.alignment) in
      let said₁ : t.said ≡ f.says = did_say waiting f m.state tt e.line m.line [] t.said t.first (omega (arith, few₁)) in
      let long : length t.said ≡ length f.says = ap length said₁ in
      let said₂ : s ≡ t.said ++ f'.says = did_say waiting f' e'.state tt m.line e'.line t.said s t.second (omega (arith, few₁, few₂)) in
      let said : s ≡ f.says ++ f'.says = said₂ ∙ ap (λ u. u ++ f'.says) said₁ in
      record {
        goes =
            subst (λ r'. Ticked e.state s r') (sym t.second.next)
            (subst (λ s. Ticked e.state s f'.next) (sym said)
            (subst (λ (r₁ : Radio). Ticked e.state (f.says ++ (alignment_ticked (takes m.line) r₁).says) (alignment_ticked (takes m.line) r₁).next) (sym t.first.next) g));
        flows =
            passed m.line e'.line _ t.second.line
            ∙ ap (λ w. w ++ handed_in f'.says) (passed e.line m.line _ t.first.line)
            ∙ append_assoc (waiting e.line) (handed_in f.says) (handed_in f'.says)
            ∙ ap (λ u. waiting e.line ++ u) (sym (handed_in_append f.says f'.says))
            ∙ ap (λ u. waiting e.line ++ handed_in u) (sym said);
      }

  Out : L → L → List ℕ → Result (Option ℕ) Refusal → Type 0
  Out l l' o' r = taken_out o' r ++ waiting l' ≡ waiting l ++ []

  took : (b : Bool) (w : List (List ℕ)) (l l' : L) (o o' : List ℕ) (r : Result (Option ℕ) Refusal) → waiting l ≡ w → Took waiting takes b w l l' o o' r → Out l l' o' r
  unfolding Out
  took false w l l' o o' r e h = subst (Out l l' o') (sym h.answer) (ap waiting h.line ∙ sym (append-nil (waiting l)))
  took true [] l l' o o' r e h = subst (Out l l' o') (sym h.answer) (ap waiting h.line ∙ sym (append-nil (waiting l)))
  took true (f ∷ fs) l l' o o' r e h =
      let out : ListN.take (ListN.length f) o' ≡ f = ap (ListN.take (ListN.length f)) h.out ∙ take_at f _ (ListN.length f) refl in
      subst (Out l l' o') (sym h.answer) (ap (λ g. g ∷ waiting l') out ∙ ap (λ gs. f ∷ gs) h.waits ∙ sym e ∙ sym (append-nil (waiting l)))

  shows : (e : On Radio L) (c : Call) (e' : On Radio L) → Sound e.state → Step waiting takes e c e' → Shows e c e'
  unfolding Out
  shows e (start c a s) e' h d = shown (start c) (λ a s. refl) (λ a s. refl) _ e a s e' (started-fits (takes e.line) c e.state h) d
  shows e (rate bars a s) e' h d = shown (rate bars) (λ a s. refl) (λ a s. refl) _ e a s e' (rated-fits (takes e.line) bars e.state h) d
  shows e (align direction steps a s) e' h d = shown (align direction steps) (λ a s. refl) (λ a s. refl) _ e a s e' (aligned-fits (takes e.line) direction steps e.state h) d
  shows e (send rfci fqc payload a s) e' h d =
      let b = e.state.bearing in
      shown (send rfci fqc payload) (λ a s. refl) (λ a s. refl) _ e a s e' (carried e.state (data_sent (takes e.line) rfci fqc payload b) (sending_data (takes e.line) rfci fqc payload b) h) d
  shows e (report cause a s) e' h d =
      let b = e.state.bearing in
      shown (report cause) (λ a s. refl) (λ a s. refl) _ e a s e' (carried e.state (reported (takes e.line) cause b) (reporting (takes e.line) cause b) h) d
  shows e (seek sizes a s) e' h d =
      record {
        goes = subst (λ (x : On Radio L). Goes e.state (λ k. marks k (seek sizes a s)) s (after (seek sizes a s)) x.state) (sym d.same) (subst (λ s. Goes e.state (λ k. marks k (seek sizes a s)) s (after (seek sizes a s)) e.state) (sym d.says) (unmoved e.state h));
        flows = ap (λ (x : On Radio L). waiting x.line) d.same ∙ sym (append-nil (waiting e.line)) ∙ ap (λ u. waiting e.line ++ handed_in u) (sym d.says);
      }
  shows e (receive octets a s) e' h d = shown (receive octets) (λ a s. refl) (λ a s. refl) _ e a s e' (received-fits (takes e.line) octets e.state h) d
  shows e (tick s) e' h d = ticked (is_some e.state.links) e s e' refl h d
  shows e (take o o' a) e' h d =
      record {
        goes = subst (λ r'. Goes e.state (λ k. []) [] (λ z. z) r') (sym d.same) (as_it_was e.state h);
        flows = took (roomy o) (waiting e.line) e.line e'.line o o' a refl d.took;
      }

  -- the books of one kind
  abbrev Keeps : Limits → Option Watch → Books → Type 0
  Keeps l o b = Booked l.ticks l.repeats o b

  move : (of : Settings → Limits) (s s' : Settings) (o o' : Option Watch) (ms : List Mark) (b : Books) → s' ≡ s → Move (of s').ticks (of s').repeats o ms o' → Keeps (of s) o b → Keeps (of s) o' (entered ms b)
  move of s s' o o' ms b is m h =
      moved (of s).ticks (of s).repeats b (of s).some (subst (λ z. Move (of z).ticks (of z).repeats o ms o') is m) h

  -- what stands after every run
  record Stands (s : Settings) (w : List (List ℕ)) (cs : List Call) (e : On Radio L) : Type 0 where
    settings : e.state.bearing.settings ≡ s
    sound : Sound e.state
    links : Keeps s.initialisation (watched e.state.links) (books Initialisation cs)
    rate : Keeps s.rate (watched e.state.rate.running) (books RateControl cs)
    alignment : Keeps s.alignment (watched e.state.alignment.running) (books TimeAlignment cs)
    stored : Stored e.state (sets cs)
    fair : Fair cs
    frames : taken cs ++ waiting e.line ≡ w ++ handed_over cs

  stood : (s : Settings) (w : List (List ℕ)) (cs : List Call) (c : Call) (e e' : On Radio L) → Stands s w cs e → Step waiting takes e c e' → Stands s w (c ∷ cs) e'
  stood s w cs c e e' h st =
      let x = shows e c e' h.sound st in
      let g = x.goes in
      let s' = e.state.bearing.settings in
      record {
        settings = g.settings ∙ h.settings;
        sound = g.sound;
        links = move (λ z. z.initialisation) s s' _ _ (marks Initialisation c) (books Initialisation cs) h.settings g.links h.links;
        rate = move (λ z. z.rate) s s' _ _ (marks RateControl c) (books RateControl cs) h.settings g.rate h.rate;
        alignment = move (λ z. z.alignment) s s' _ _ (marks TimeAlignment c) (books TimeAlignment cs) h.settings g.alignment h.alignment;
        stored = g.stored (sets cs) h.stored;
        fair = (h.fair, subst (λ o. Borne o (delivered_in (sayings c))) h.stored.force g.borne);
        frames =
            append_assoc (taken cs) (takes_out c) (waiting e'.line)
            ∙ ap (λ y. taken cs ++ y) x.flows
            ∙ sym (append_assoc (taken cs) (waiting e.line) (handed_in (sayings c)))
            ∙ ap (λ y. y ++ handed_in (sayings c)) h.frames
            ∙ append_assoc w (handed_over cs) (handed_in (sayings c));
      }

  stand : (s : Settings) (l : L) {cs : List Call} {e' : On Radio L} → Run waiting takes (record { state = opened s; line = l }) cs e' → Stands s (waiting l) cs e'
  stand s l none =
      record {
        settings = refl;
        sound = opened-sound s;
        links = blank_idle s.initialisation.ticks s.initialisation.repeats;
        rate = blank_idle s.rate.ticks s.rate.repeats;
        alignment = blank_idle s.alignment.ticks s.alignment.repeats;
        stored = record { force = refl; offer = tt };
        fair = tt;
        frames = sym (append-nil (waiting l));
      }
  stand s l (then {cs} {c} {e'} {e''} run st) = stood s (waiting l) cs c e' e'' (stand s l run) st

  pub runs_hold : (s : Settings) (l : L) → RunsHold waiting takes s (record { state = opened s; line = l })
  runs_hold s l cs e' run =
      let h = stand s l run in
      record {
        deliveries = h.fair;
        initialisation = kept s.initialisation.ticks s.initialisation.repeats (watched e'.state.links) (books Initialisation cs) h.links;
        rate = kept s.rate.ticks s.rate.repeats (watched e'.state.rate.running) (books RateControl cs) h.rate;
        alignment = kept s.alignment.ticks s.alignment.repeats (watched e'.state.alignment.running) (books TimeAlignment cs) h.alignment;
        frames = h.frames;
      }
