-- What a received frame does, for the ledger.
use Rattle.std.proofs.Common.{◌≡◌, ℕ, Bool, true, false, cond, List, [], Some, None, Ok, Err, Option, Result, refl, ap, ◌∙◌, subst, arith}
use Rattle.std.proofs.lemmas.Bool.{cond_both}
use Rattle.frames.specs.declared.refusal.Refusal.{Refusal}
use Rattle.frames.specs.declared.refusal.Refusal.TheVariants.{UnexpectedProcedure}
use Rattle.frames.specs.declared.procedure.Procedure.{Procedure}
use Rattle.frames.specs.declared.procedure.Procedure.TheVariants.{RateControl, TimeAlignment, ErrorEvent}
use Rattle.frames.specs.declared.procedure.Procedure.TheVariants.{Initialisation as Offering}
use Rattle.frames.specs.declared.frame.AckNack.TheVariants.{Ack, Nack}
use Rattle.frames.specs.Contents.{Reply}
use Rattle.frames.specs.Contents as Frames
use Rattle.payloads.specs.declared.event.ErrorEvent.{ErrorEvent as AnEvent}
use Rattle.payloads.specs.Payloads.{event_in}
use Rattle.sets.specs.Contents.{Contents}
use Rattle.reports.specs.declared.ending.Kind.{Kind}
use Rattle.reports.specs.declared.ending.Kind.TheVariants.{Initialisation}
use Rattle.reports.specs.declared.ending.Kind.TheVariants.{RateControl as Rate, TimeAlignment as Alignment}
use Rattle.reports.specs.declared.ending.Ending.TheVariants.{NoAnswer, Rejected, RateFailure, AlignmentFailure}
use Rattle.reports.specs.declared.happening.Happening.{Happening}
use Rattle.reports.specs.Said.{delivered_in}
use Rattle.reports.specs.Effects.{Effect}
use Rattle.exchange.specs.declared.exchange.Exchange.{Exchange}
use Rattle.exchange.specs.declared.limits.Limits.{Limits}
use Rattle.exchange.specs.Slots.{slot_heard}
use Rattle.exchange.specs.Books.{same, done_in, named}
use Rattle.exchange.proofs.Moves.{stays}
use Rattle.exchange.proofs.Exchanging as Exchanging
use Rattle.exchange.proofs.Exchanging.{Still, Same, slot_hearing}
use Rattle.questions.specs.Answering.{acceptance_leads, alignment_turns}
use Rattle.questions.specs.Kinds.{links_asked, links_frames, links_follow, rate_asked, rate_frames, alignment_asked, alignment_frames, alone}
use Rattle.questions.proofs.Proper.{links_proper, rate_proper, alignment_proper}
use Rattle.bearer.specs.Bearing.{Bearing, standing, in_force}
use Rattle.bearer.specs.Errors.{objects}
use Rattle.bearer.specs.Traffics.{Data, got}
use Rattle.bearer.proofs.Carrying.{none_borne, objecting, getting}
use Rattle.radio_end.specs.declared.received.Received.{Received}
use Rattle.radio_end.specs.Radio.{Radio}
use Rattle.radio_end.specs.Steps.{on_bearing, coming, awaited, rate_heard, alignment_heard, heard, answered, questioned, received_on, received}
use Rattle.radio_end.specs.Ledger.{Sets, settled}
use Rattle.radio_end.proofs.Going.{Alone, Sound, Offer, Goes, Part, unmoved, carried, on_rate, on_alignment, lone_rate, lone_alignment}

-- what a received frame with this effect does, whatever is told of it
abbrev pub Heeds : {A : Type 0} → Radio → Effect Radio A → Type 0
Heeds r f = Goes r (λ k. named k f.says) f.says (settled f.says) f.next

-- an error event may go back
objecting_to : (takes : ℕ → Bool) (e : Refusal) (r : Radio) → Sound r → Heeds {A = Result Received Refusal} r (on_bearing r (objects takes e r.bearing))
objecting_to takes e r h = carried r (objects {A = Received} takes e r.bearing) (objecting takes e r.bearing) h

-- an answer is a matter of its own kind
part_of : {Q A : Type 0} (limits : Limits) (k : Kind) (o : Option (Exchange Q)) (x : Effect (Option (Exchange Q)) A) → same k Initialisation ≡ false → Exchanging.Goes limits k [] o x → Part limits k (λ j. named j x.says) o x
part_of limits k o x other g = record { all = g.marks; move = g.move; marks = g.says; asks = g.asks; undone = g.other Initialisation other; plain = g.plain; few = omega (arith, g.few) }

-- a set comes into force in the call that names its initialisation as done
coming-set : (d : Bool) (c : Contents) (b : Bearing) (z : Sets) → Some c ≡ z.offered → standing b.force ≡ z.force → standing (cond d (Some (in_force c)) b.force) ≡ cond d z.offered z.force
coming-set true c b z offer force = offer
coming-set false c b z offer force = force

pub offer_on : (e : Exchange Contents) (x : Option (Exchange Contents)) (o : Option Contents) → Same (Some e) x → Some e.question ≡ o → Offer x o
offer_on e None o s h = tt
offer_on e (Some x) o s h = ap Some s ∙ h

alone_after : (e : Exchange Contents) (x' : Option (Exchange Contents)) (s : List Happening) (b : Bearing) (x : Option (Exchange (List Bool))) (y : Option (Exchange ℕ)) → Still x' s → Alone (Some e) (standing b.force) x y → Alone x' (standing (coming s (Some e) b).force) x y
alone_after e None s b x y still h = tt
alone_after e (Some w) s b x y still h = (ap (λ d. standing (cond d (Some (in_force e.question)) b.force)) (still Initialisation) ∙ h.0, h.1, h.2)

module _ (takes : ℕ → Bool) (a : Reply) where
  -- an answer to a link, by the exchange that runs
  hearing_links : (r : Radio) (o : Option (Exchange Contents)) → r.links ≡ o → Sound r
      → Heeds r (let f = slot_heard links_frames Initialisation takes r.bearing.settings.initialisation links_follow Rejected acceptance_leads a o in record { next = record r { bearing = coming f.says o r.bearing; links = f.next }; says = f.says; answer = f.answer })
  hearing_links r None is h = subst (λ o. Goes r (λ k. []) [] (settled []) (record r { links = o })) is (unmoved r h)
  hearing_links r (Some e) is h =
      let l = r.bearing.settings.initialisation in
      let asks = subst Exchanging.Asks is h.links in
      let g = slot_hearing Offering Initialisation links_asked links_frames links_follow NoAnswer Rejected acceptance_leads links_proper l takes a (Some e) asks in
      let x = slot_heard links_frames Initialisation takes l links_follow Rejected acceptance_leads a (Some e) in
      let alone = subst (λ o. Alone o (standing r.bearing.force) r.rate.running r.alignment.running) is h.alone in
      record {
        settings = refl;
        sound = record { links = g.asks; rate = h.rate; alignment = h.alignment; rates = h.rates; alignments = h.alignments; alone = alone_after e x.next x.says r.bearing r.rate.running r.alignment.running g.still alone };
        links = rw (is, g.says Initialisation) g.move;
        rate = rw (g.says Rate) stays;
        alignment = rw (g.says Alignment) stays;
        stored = λ z st. record { force = coming-set (done_in Initialisation x.says) e.question r.bearing z (subst (λ o. Offer o z.offered) is st.offer) st.force; offer = offer_on e x.next z.offered g.steady (subst (λ o. Offer o z.offered) is st.offer) };
        borne = none_borne (standing r.bearing.force) (delivered_in x.says) g.plain;
        few = omega (arith, g.few);
      }

  hearing_rate : (r : Radio) → Sound r → Heeds r (rate_heard takes a r)
  hearing_rate r h =
      let l = r.bearing.settings.rate in
      let x = slot_heard rate_frames Rate takes l alone RateFailure acceptance_leads a r.rate.running in
      let g = slot_hearing RateControl Rate rate_asked rate_frames alone RateFailure RateFailure acceptance_leads rate_proper l takes a r.rate.running h.rate in
      on_rate r (λ k. named k x.says) x r.rate.next (part_of l Rate r.rate.running x refl g) h.rates (lone_rate r.links (standing r.bearing.force) r.rate.running x.next r.alignment.running g.steady h.alone) h

  hearing_alignment : (r : Radio) → Sound r → Heeds r (alignment_heard takes a r)
  hearing_alignment r h =
      let l = r.bearing.settings.alignment in
      let x = slot_heard alignment_frames Alignment takes l alone AlignmentFailure alignment_turns a r.alignment.running in
      let g = slot_hearing TimeAlignment Alignment alignment_asked alignment_frames alone AlignmentFailure AlignmentFailure alignment_turns alignment_proper l takes a r.alignment.running h.alignment in
      on_alignment r (λ k. named k x.says) x r.alignment.next (part_of l Alignment r.alignment.running x refl g) h.alignments (lone_alignment r.links (standing r.bearing.force) r.rate.running r.alignment.running x.next g.steady h.alone) h

  hearing : (p : Procedure) (r : Radio) → Sound r → Heeds r (heard takes a p r)
  hearing Offering r h = hearing_links r r.links refl h
  hearing RateControl r h = hearing_rate r h
  hearing TimeAlignment r h = hearing_alignment r h
  hearing ErrorEvent r h = unmoved r h

  answering : (r : Radio) → Sound r → Heeds r (answered takes a r)
  answering r h =
      cond_both (awaited a.procedure r) _ _ (λ (f : Effect Radio (Result Received Refusal)). Heeds r f)
      (λ _. hearing a.procedure r h)
      (λ _. objecting_to takes UnexpectedProcedure r h)

module _ (takes : ℕ → Bool) where
  questioning : (p : Procedure) (e : Result AnEvent Refusal) (r : Radio) → Sound r → Heeds r (questioned takes p e r)
  questioning Offering e r h = objecting_to takes UnexpectedProcedure r h
  questioning RateControl e r h = objecting_to takes UnexpectedProcedure r h
  questioning TimeAlignment e r h = objecting_to takes UnexpectedProcedure r h
  questioning ErrorEvent e r h = unmoved r h

  receiving : (x : Result Frames.Contents Refusal) (r : Radio) → Sound r → Heeds r (received_on takes x r)
  receiving (Err e) r h = objecting_to takes e r h
  receiving (Ok (Frames.user_data type n fqc rfci checksum place payload)) r h =
      let d : Data = record { header = record { data_type = type; number = n; fqc = fqc; rfci = rfci }; checksum = checksum; place = place; payload = payload } in
      carried r (got takes d r.bearing) (getting takes d r.bearing) h
  receiving (Ok (Frames.question n version procedure checksum place payload)) r h = questioning procedure (event_in version checksum payload) r h
  receiving (Ok (Frames.ack n version procedure place payload)) r h =
      answering takes (record { ack_nack = Ack; number = n; version = version; procedure = procedure; payload = payload }) r h
  receiving (Ok (Frames.nack n version procedure place payload)) r h =
      answering takes (record { ack_nack = Nack; number = n; version = version; procedure = procedure; payload = payload }) r h

  pub received-fits : (octets : List ℕ) (r : Radio) → Sound r → Heeds r (received takes octets r)
  received-fits octets r h = receiving (Frames.parsed octets) r h
