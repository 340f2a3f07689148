-- Error events that an end sends.
use Rattle.std.specs.Prelude.{ℕ, ◌+◌, ◌%◌, Bool, List, [], ◌∷◌, length, Some, None, Ok, Err, Option, Result, nat_lt, if◌then◌else◌}
use Rattle.frames.specs.declared.refusal.Refusal.{Refusal}
use Rattle.frames.specs.declared.refusal.Refusal.TheVariants.{HeaderChecksum, PayloadChecksum, PduType, Procedure, ReservedValue, TooShort, UnexpectedPduType, UnexpectedProcedure, UnknownRfci, UnexpectedValue, ModeVersion, TooLong, SettingRange, HostHoldsQuestion, NotThisQuestion, LinkTooLong, LineDeclines, WrongPhase, AlreadyRuns, RfciBarred, OctetCount, RfciTaken, Dimensions, TooManyCombinations, NoCombination, ValueRange, Hexadecimal, NoSuchSizes, BufferTooSmall}
use Rattle.frames.specs.Refusals.{number_of}
use Rattle.building.specs.Building.{error_frame}
use Rattle.reports.specs.declared.happening.Happening.{Happening}
use Rattle.reports.specs.declared.happening.Happening.TheVariants.{HandedOver}
use Rattle.reports.specs.Said.{sending}
use Rattle.reports.specs.Effects.{Effect, refuses}
use Rattle.bearer.specs.Bearing.{Bearing}

abbrev pub event_used : Bearing → Bearing
event_used b = record b { events = (b.events + 1) % 4 }

-- an error event goes out, and its number is used up
abbrev pub passes_event : (ℕ → Bool) → List ℕ → Bearing → Effect Bearing (Unit {0})
passes_event takes frame b = record { next = event_used b; says = sending (takes (length frame)) frame ∷ []; answer = tt }

-- an error event of the end's own, distance 0: it is lost where the line does not take it, and its number is used up all the same
abbrev pub event : (ℕ → Bool) → ℕ → Bearing → Happening
event takes cause b = sending (takes (length (error_frame b.events 0 cause))) (error_frame b.events 0 cause)

abbrev pub tells : (ℕ → Bool) → ℕ → Bearing → Effect Bearing (Unit {0})
tells takes cause b = record { next = event_used b; says = event takes cause b ∷ []; answer = tt }

-- the refusals of a received frame that go back, by the cause that tells each: its own number
abbrev pub cause_of : Refusal → Option ℕ
cause_of HeaderChecksum = None
cause_of PayloadChecksum = None
cause_of PduType = Some (number_of PduType)
cause_of Procedure = Some (number_of Procedure)
cause_of ReservedValue = Some (number_of ReservedValue)
cause_of TooShort = Some (number_of TooShort)
cause_of UnexpectedPduType = Some (number_of UnexpectedPduType)
cause_of UnexpectedProcedure = Some (number_of UnexpectedProcedure)
cause_of UnknownRfci = Some (number_of UnknownRfci)
cause_of UnexpectedValue = Some (number_of UnexpectedValue)
cause_of ModeVersion = None
cause_of TooLong = None
cause_of SettingRange = None
cause_of HostHoldsQuestion = None
cause_of NotThisQuestion = None
cause_of LinkTooLong = None
cause_of LineDeclines = None
cause_of WrongPhase = None
cause_of AlreadyRuns = None
cause_of RfciBarred = None
cause_of OctetCount = None
cause_of RfciTaken = None
cause_of Dimensions = None
cause_of TooManyCombinations = None
cause_of NoCombination = None
cause_of ValueRange = None
cause_of Hexadecimal = None
cause_of NoSuchSizes = None
cause_of BufferTooSmall = None

-- a received frame is refused; where the refusal goes back, an error event tells its cause
abbrev pub objects_by : {A : Type 0} → (ℕ → Bool) → Option ℕ → Refusal → Bearing → Effect Bearing (Result A Refusal)
objects_by takes None e b = refuses b e
objects_by takes (Some cause) e b = record { next = event_used b; says = event takes cause b ∷ []; answer = Err e }

abbrev pub objects : {A : Type 0} → (ℕ → Bool) → Refusal → Bearing → Effect Bearing (Result A Refusal)
objects takes e b = objects_by takes (cause_of e) e b

-- an upper layer's error, distance 1
abbrev pub reported : (ℕ → Bool) → ℕ → Bearing → Effect Bearing (Result (Unit {0}) Refusal)
reported takes cause b =
    let frame = error_frame b.events 1 cause in
    if nat_lt 63 cause then refuses b ValueRange
    else if takes (length frame) then record { next = event_used b; says = HandedOver frame ∷ []; answer = Ok tt }
    else refuses b LineDeclines
