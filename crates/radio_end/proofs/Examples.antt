-- Ledgers worked by hand, and a run that there is.
use Rattle.std.proofs.Common.{◌≡◌, ℕ, true, false, List, [], ◌∷◌, Some, None, Ok, refl, arith}
use Rattle.frames.specs.declared.data_type.DataType.TheVariants.{Plain}
use Rattle.sets.specs.Rows.{Row}
use Rattle.sets.specs.Contents.{Contents}
use Rattle.set_in_force.specs.Places.{places_from}
use Rattle.reports.specs.declared.ending.Kind.TheVariants.{Initialisation, RateControl}
use Rattle.reports.specs.declared.ending.Ending.TheVariants.{Done, Overtaken}
use Rattle.reports.specs.declared.happening.Happening.{Happening}
use Rattle.reports.specs.declared.happening.Happening.TheVariants.{Started, Ended, HandedOver, Refused}
use Rattle.reports.specs.declared.happening.Happening.TheVariants.{Delivered as Brought}
use Rattle.building.specs.Building.{error_frame}
use Rattle.exchange.specs.declared.limits.Limits.{Limits}
use Rattle.bearer.specs.declared.settings.Settings.{Settings}
use Rattle.bearer.specs.declared.settings.Numbering.TheVariants.{Counted}
use Rattle.radio_end.specs.declared.received.Received.TheVariants.{Delivered, Ack}
use Rattle.radio_end.specs.Radio.{Radio, On}
use Rattle.radio_end.specs.Runs.{Call, start, report, receive, tick, take, Run, none, then}
use Rattle.radio_end.specs.Ledger.{books, sets, Fair, taken, handed_over}

-- a set of one combination: RFCI 3 with subflows of 10 and 6 bits
abbrev row : Row
row = record { rfci = 3; ipti = 0; sizes = 10 ∷ 6 ∷ []; allowed = true }

abbrev set : Contents
set = record { opening = record { subflows = 2; timed = false; data_type = Plain }; combinations = row ∷ [] }

abbrev brought : ℕ → ℕ → List Happening
brought rfci second = Brought (record { rfci = rfci; fqc = 0; gap = 0; place = 3; subflows = record { first = 0; bits = 10 } ∷ record { first = second; bits = 6 } ∷ [] }) ∷ []

-- link 0 is handed over, refused after two ticks when it is repeated, and acknowledged
abbrev begun : List Call
begun =
    receive (228 ∷ 0 ∷ []) (Ok Ack) (Ended Initialisation Done ∷ [])
    ∷ tick (Refused (224 ∷ 0 ∷ []) ∷ [])
    ∷ tick []
    ∷ start set (Ok tt) (Ended RateControl Overtaken ∷ Started Initialisation ∷ HandedOver (224 ∷ 0 ∷ []) ∷ [])
    ∷ []

abbrev run : List Call
run = take [] (224 ∷ 0 ∷ 7 ∷ []) (Ok (Some 2)) ∷ receive (16 ∷ 3 ∷ []) (Ok Delivered) (brought 3 10) ∷ begun

in_order : books Initialisation run ≡ record { started = 1; announcements = 1; ended = 1; running = 0; sent = 0 ∷ 0 ∷ []; number = None; waits = 0; most = 2; longest = 2; faults = 0 }
in_order = refl

-- a rate that was never opened is named as ended
a_fault : (books RateControl run).faults ≡ 1
a_fault = refl

in_force_example : sets run ≡ record { offered = Some set; force = Some set }
in_force_example = refl

moved_on : (taken run ≡ (224 ∷ 0 ∷ []) ∷ []) × (handed_over run ≡ (224 ∷ 0 ∷ []) ∷ [])
moved_on = (refl, refl)

fair : Fair run
unfolding places_from
fair = ((((((tt, tt), tt), tt), tt), (record { index = 0; row = row; there = refl; rfci = refl; subflows = refl }, tt)), tt)

-- before its initialisation is named as done, nothing may be delivered
unfair : Fair (receive (16 ∷ 3 ∷ []) (Ok Delivered) (brought 3 10) ∷ start set (Ok tt) [] ∷ []) → ⊥
unfair h = h.1

-- over the line that takes everything: an error event is handed over, and a tick passes
limits : Limits
limits = record { ticks = 3; repeats = 1; some = omega arith; most = omega arith; few = omega arith }

abbrev settings : Settings
settings = record { initialisation = limits; rate = limits; alignment = limits; numbering = Counted; keep_damaged = false; mark = 0 }

abbrev with : (events : ℕ) → List (List ℕ) → On Radio (List (List ℕ))
with events line = record { state = record { bearing = record { settings = settings; events = events; force = None }; links = None; rate = record { running = None; next = 0 }; alignment = record { running = None; next = 0 } }; line = line }

there_is : Run {L = List (List ℕ)} (λ l. l) (λ l n. true) (with 0 []) (tick [] ∷ report 5 (Ok tt) (HandedOver (error_frame 0 1 5) ∷ []) ∷ []) (with 1 (error_frame 0 1 5 ∷ []))
unfolding limits
there_is =
    then {e' = with 1 (error_frame 0 1 5 ∷ [])} (then none (record { next = refl; answer = refl; line = refl; says = refl }))
    (record {
      between = with 1 (error_frame 0 1 5 ∷ []);
      said = [];
      first = record { next = refl; answer = refl; line = refl; says = refl };
      second = record { next = refl; answer = refl; line = refl; says = refl };
    })
