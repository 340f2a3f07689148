-- What each call does to the meaning of a radio end.
use Rattle.std.specs.Prelude.{ℕ, ◌+◌, Bool, false, List, [], ◌∷◌, ◌++◌, length, take, is_some, Some, None, Ok, Err, Option, Result, if◌then◌else◌}
use Rattle.frames.specs.declared.refusal.Refusal.{Refusal}
use Rattle.frames.specs.declared.refusal.Refusal.TheVariants.{WrongPhase, LinkTooLong, LineDeclines, AlreadyRuns, ValueRange, UnexpectedProcedure}
use Rattle.frames.specs.declared.procedure.Procedure.{Procedure}
use Rattle.frames.specs.declared.procedure.Procedure.TheVariants.{RateControl, TimeAlignment, ErrorEvent}
use Rattle.frames.specs.declared.procedure.Procedure.TheVariants.{Initialisation as Offering}
use Rattle.frames.specs.declared.shift.Direction.{Direction}
use Rattle.frames.specs.Distances.{distance_code}
use Rattle.frames.specs.Values.{shift_by}
use Rattle.frames.specs.declared.frame.AckNack.TheVariants.{Ack, Nack}
use Rattle.frames.specs.Contents.{Reply}
use Rattle.frames.specs.Contents as Frames
use Rattle.payloads.specs.declared.event.ErrorEvent.{ErrorEvent as AnEvent}
use Rattle.payloads.specs.Payloads.{event_in}
use Rattle.sets.specs.Contents.{Contents}
use Rattle.set_in_force.specs.Looks.{highest_of}
use Rattle.reports.specs.declared.ending.Kind.{Kind}
use Rattle.reports.specs.declared.ending.Kind.TheVariants.{Initialisation}
use Rattle.reports.specs.declared.ending.Kind.TheVariants.{RateControl as Rate, TimeAlignment as Alignment}
use Rattle.reports.specs.declared.ending.Ending.TheVariants.{NoAnswer, Rejected, Overtaken, RateFailure, AlignmentFailure}
use Rattle.reports.specs.declared.happening.Happening.{Happening}
use Rattle.reports.specs.declared.happening.Happening.TheVariants.{Started, Ended, HandedOver}
use Rattle.reports.specs.Effects.{Effect, refuses, within}
use Rattle.exchange.specs.declared.exchange.Exchange.{Exchange}
use Rattle.exchange.specs.declared.numbered.Numbered.{Numbered}
use Rattle.exchange.specs.Asking.{begun}
use Rattle.exchange.specs.Slots.{numbered_begun, slot_ticked, slot_heard}
use Rattle.exchange.specs.Books.{done_in}
use Rattle.questions.specs.Answering.{acceptance_leads, alignment_turns}
use Rattle.questions.specs.Kinds.{links_frames, links_follow, links_fit, rate_frames, alignment_frames, alone}
use Rattle.bearer.specs.Bearing.{Bearing, Force, with_force, in_force}
use Rattle.bearer.specs.Errors.{objects}
use Rattle.bearer.specs.Traffics.{Data, got, tick_passed}
use Rattle.bearer.specs.Allowing.{allows_one}
use Rattle.radio_end.specs.declared.received.Received.{Received}
use Rattle.radio_end.specs.declared.received.Received.TheVariants.{Delivered}
use Rattle.radio_end.specs.declared.received.Received.TheVariants.{ErrorEvent as Told, Ack as Acknowledged, Nack as Declined}
use Rattle.radio_end.specs.Radio.{Radio}

-- what the bearer does, in the end
abbrev pub on_bearing : {A : Type 0} → Radio → Effect Bearing A → Effect Radio A
on_bearing r f = within (λ b. record r { bearing = b }) f

-- what is told of an answer: of user data, of an Ack or a Nack, of an error event
abbrev pub telling : {A : Type 0} → (A → Received) → Result A Refusal → Result Received Refusal
telling told (Ok a) = Ok (told a)
telling told (Err e) = Err e

abbrev pub tells : {A : Type 0} → (A → Received) → Effect Radio (Result A Refusal) → Effect Radio (Result Received Refusal)
tells told f = record { next = f.next; says = f.says; answer = telling told f.answer }

-- an exchange that is overtaken
abbrev pub overtaken : {Q : Type 0} → Kind → Option (Exchange Q) → List Happening
overtaken k None = []
overtaken k (Some e) = Ended k Overtaken ∷ []

-- the number of the next question stays
abbrev pub with_running : {Q : Type 0} → Numbered Q → Option (Exchange Q) → Numbered Q
with_running n x = record n { running = x }

-- as many of the marks as the set's highest RFCI asks for
abbrev pub marks_for : List Bool → Force → List Bool
marks_for bars x = take (highest_of x.set.combinations + 1) bars

-- an Ack, or a Nack with its cause
abbrev pub answer_told : Option ℕ → Received
answer_told None = Acknowledged
answer_told (Some c) = Declined c

-- the set that is offered comes into force in the call that names its initialisation as done
abbrev pub coming : List Happening → Option (Exchange Contents) → Bearing → Bearing
coming says None b = b
coming says (Some e) b = with_force (if done_in Initialisation says then Some (in_force e.question) else b.force) b

-- whether an answer of a procedure is waited for; an error event has none
abbrev pub awaited : Procedure → Radio → Bool
awaited Offering r = is_some r.links
awaited RateControl r = is_some r.rate.running
awaited TimeAlignment r = is_some r.alignment.running
awaited ErrorEvent r = false

-- a received error event is told; one that is refused sends nothing back
abbrev pub event_told : Radio → Result AnEvent Refusal → Effect Radio (Result Received Refusal)
event_told r e = record { next = r; says = []; answer = telling (λ e. Told e.cause (distance_code e.distance + 1)) e }

module _ (takes : ℕ → Bool) where
  -- Start: running exchanges of rate and alignment are overtaken, no set is in force any more, and link 0 is handed over
  abbrev pub start_begun : Contents → Radio → Effect Radio (Result (Unit {0}) Refusal)
  start_begun c r =
      record {
        next = record r { bearing = with_force None r.bearing; links = Some (begun c 0 r.bearing.settings.initialisation); rate = with_running r.rate None; alignment = with_running r.alignment None };
        says = overtaken Rate r.rate.running ++ overtaken Alignment r.alignment.running ++ Started Initialisation ∷ HandedOver (links_frames c 0) ∷ [];
        answer = Ok tt;
      }

  abbrev pub started : Contents → Radio → Effect Radio (Result (Unit {0}) Refusal)
  started c r =
      if is_some r.links then refuses r WrongPhase
      else if links_fit c then (if takes (length (links_frames c 0)) then start_begun c r else refuses r LineDeclines)
      else refuses r LinkTooLong

  -- Rate
  abbrev pub rate_begun : List Bool → Radio → Effect Radio (Result (Unit {0}) Refusal)
  rate_begun bars r =
      within (λ x. record r { rate = x }) (numbered_begun rate_frames Rate takes r.bearing.settings.rate bars r.rate)

  abbrev pub rated_on : List Bool → Radio → Option Force → Effect Radio (Result (Unit {0}) Refusal)
  rated_on bars r None = refuses r WrongPhase
  rated_on bars r (Some x) =
      if is_some r.rate.running then refuses r AlreadyRuns
      else if allows_one bars x.set.combinations then rate_begun (marks_for bars x) r
      else refuses r ValueRange

  abbrev pub rated : List Bool → Radio → Effect Radio (Result (Unit {0}) Refusal)
  rated bars r = rated_on bars r r.bearing.force

  -- Alignment
  abbrev pub alignment_begun : ℕ → Radio → Effect Radio (Result (Unit {0}) Refusal)
  alignment_begun octet r =
      within (λ x. record r { alignment = x }) (numbered_begun alignment_frames Alignment takes r.bearing.settings.alignment octet r.alignment)

  abbrev pub aligned_by : Radio → Result ℕ Refusal → Effect Radio (Result (Unit {0}) Refusal)
  aligned_by r (Err e) = refuses r e
  aligned_by r (Ok octet) = alignment_begun octet r

  abbrev pub aligned_on : Direction → ℕ → Radio → Option Force → Effect Radio (Result (Unit {0}) Refusal)
  aligned_on direction steps r None = refuses r WrongPhase
  aligned_on direction steps r (Some x) = if is_some r.alignment.running then refuses r AlreadyRuns else aligned_by r (shift_by direction steps)

  abbrev pub aligned : Direction → ℕ → Radio → Effect Radio (Result (Unit {0}) Refusal)
  aligned direction steps r = aligned_on direction steps r r.bearing.force

  module _ (a : Reply) where
    abbrev pub links_heard : Radio → Effect Radio (Result (Option ℕ) Refusal)
    links_heard r =
        let f = slot_heard links_frames Initialisation takes r.bearing.settings.initialisation links_follow Rejected acceptance_leads a r.links in
        record { next = record r { bearing = coming f.says r.links r.bearing; links = f.next }; says = f.says; answer = f.answer }

    abbrev pub rate_heard : Radio → Effect Radio (Result (Option ℕ) Refusal)
    rate_heard r =
        within (λ x. record r { rate = with_running r.rate x }) (slot_heard rate_frames Rate takes r.bearing.settings.rate alone RateFailure acceptance_leads a r.rate.running)

    abbrev pub alignment_heard : Radio → Effect Radio (Result (Option ℕ) Refusal)
    alignment_heard r =
        within (λ x. record r { alignment = with_running r.alignment x }) (slot_heard alignment_frames Alignment takes r.bearing.settings.alignment alone AlignmentFailure alignment_turns a r.alignment.running)

    -- an answer goes to the exchange of its procedure
    abbrev pub heard : Procedure → Radio → Effect Radio (Result (Option ℕ) Refusal)
    heard Offering r = links_heard r
    heard RateControl r = rate_heard r
    heard TimeAlignment r = alignment_heard r
    heard ErrorEvent r = refuses r UnexpectedProcedure

    -- where none is waited for, an error event may go back
    abbrev pub answered : Radio → Effect Radio (Result Received Refusal)
    answered r = if awaited a.procedure r then tells answer_told (heard a.procedure r) else on_bearing r (objects takes UnexpectedProcedure r.bearing)

  -- user data is told as delivered where the bearer accepts it
  abbrev pub data_received : Data → Radio → Effect Radio (Result Received Refusal)
  data_received d r = tells (λ _. Delivered) (on_bearing r (got takes d r.bearing))

  -- at the radio end no question is expected but an error event
  abbrev pub questioned : Procedure → Result AnEvent Refusal → Radio → Effect Radio (Result Received Refusal)
  questioned Offering e r = on_bearing r (objects takes UnexpectedProcedure r.bearing)
  questioned RateControl e r = on_bearing r (objects takes UnexpectedProcedure r.bearing)
  questioned TimeAlignment e r = on_bearing r (objects takes UnexpectedProcedure r.bearing)
  questioned ErrorEvent e r = event_told r e

  -- a frame that was read, or why it was not
  abbrev pub received_on : Result Frames.Contents Refusal → Radio → Effect Radio (Result Received Refusal)
  received_on (Err e) r = on_bearing r (objects takes e r.bearing)
  received_on (Ok (Frames.user_data type number fqc rfci checksum place payload)) r =
      data_received (record { header = record { data_type = type; number = number; fqc = fqc; rfci = rfci }; checksum = checksum; place = place; payload = payload }) r
  received_on (Ok (Frames.question number version procedure checksum place payload)) r = questioned procedure (event_in version checksum payload) r
  received_on (Ok (Frames.ack number version procedure place payload)) r =
      answered (record { ack_nack = Ack; number = number; version = version; procedure = procedure; payload = payload }) r
  received_on (Ok (Frames.nack number version procedure place payload)) r =
      answered (record { ack_nack = Nack; number = number; version = version; procedure = procedure; payload = payload }) r

  abbrev pub received : List ℕ → Radio → Effect Radio (Result Received Refusal)
  received octets r = received_on (Frames.parsed octets) r

  -- Tick: an initialisation alone, or rate and then alignment
  abbrev pub links_ticked : Radio → Effect Radio (Unit {0})
  links_ticked r = within (λ x. record r { links = x }) (slot_ticked links_frames Initialisation takes r.bearing.settings.initialisation NoAnswer r.links)

  abbrev pub rate_ticked : Radio → Effect Radio (Unit {0})
  rate_ticked r = within (λ x. record r { rate = with_running r.rate x }) (slot_ticked rate_frames Rate takes r.bearing.settings.rate RateFailure r.rate.running)

  abbrev pub alignment_ticked : Radio → Effect Radio (Unit {0})
  alignment_ticked r = within (λ x. record r { alignment = with_running r.alignment x }) (slot_ticked alignment_frames Alignment takes r.bearing.settings.alignment AlignmentFailure r.alignment.running)

-- before them user data is numbered on
abbrev pub timed : Radio → Radio
timed r = record r { bearing = tick_passed r.bearing }
