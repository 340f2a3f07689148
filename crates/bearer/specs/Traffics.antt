-- User data: sent, received, and numbered.
use Rattle.std.specs.Prelude.{◌≡◌, ℕ, ◌+◌, ◌-◌, ◌%◌, Bool, true, false, if◌then◌else◌, List, [], ◌∷◌, length, Some, None, Ok, Err, Option, Result, ◌==◌, nat_lt}
use Rattle.frames.specs.declared.frame.DataHeader.{DataHeader}
use Rattle.frames.specs.declared.frame.UserData.{UserData}
use Rattle.frames.specs.declared.refusal.Refusal.{Refusal}
use Rattle.frames.specs.declared.refusal.Refusal.TheVariants.{WrongPhase, RfciBarred, LineDeclines, UnexpectedPduType, UnknownRfci, TooShort, UnexpectedValue, PayloadChecksum}
use Rattle.frames.specs.Extent.{octets_for}
use Rattle.frames.specs.DataTypes.{data_number}
use Rattle.set_in_force.specs.declared.place.Found.{Found}
use Rattle.set_in_force.specs.Looks.{looked_up, Searched}
use Rattle.payloads.specs.Checks.{summed}
use Rattle.building.specs.UserData.{user_data}
use Rattle.reports.specs.declared.happening.Delivery.{Delivery}
use Rattle.reports.specs.declared.happening.Happening.TheVariants.{Delivered, HandedOver}
use Rattle.reports.specs.Effects.{Effect, refuses}
use Rattle.bearer.specs.declared.settings.Numbering.{Numbering}
use Rattle.bearer.specs.declared.settings.Numbering.TheVariants.{Timed, Counted}
use Rattle.bearer.specs.declared.settings.Settings.{Settings}
use Rattle.bearer.specs.Bearing.{Force, Bearing, with_force}
use Rattle.bearer.specs.Errors.{event_used, event, objects}

-- the next number, modulo 16: after each frame in counted numbering, after each tick in timed numbering
abbrev pub numbered : (numbering by : Numbering) → Force → Force
numbered Counted Counted x = record x { sending = (x.sending + 1) % 16 }
numbered Timed Timed x = record x { sending = (x.sending + 1) % 16 }
numbered Counted Timed x = x
numbered Timed Counted x = x

abbrev pub time_passed : Numbering → Option Force → Option Force
time_passed m None = None
time_passed m (Some x) = Some (numbered m Timed x)

abbrev pub tick_passed : Bearing → Bearing
tick_passed b = with_force (time_passed b.settings.numbering b.force) b

-- the next frame: no such combination, or a barred one; what cannot be built
abbrev pub framed_as : (rfci fqc : ℕ) → List ℕ → Force → Option Found → Result (List ℕ) Refusal
framed_as rfci fqc payload x None = Err RfciBarred
framed_as rfci fqc payload x (Some c) = if c.allowed then user_data x.set.opening.data_type x.sending fqc rfci c.bits payload else Err RfciBarred

abbrev pub frame_for : (rfci fqc : ℕ) → List ℕ → Force → Result (List ℕ) Refusal
frame_for rfci fqc payload x = framed_as rfci fqc payload x (looked_up rfci x.set.combinations)

-- it is handed over and the number used, or refused
abbrev pub passes : (ℕ → Bool) → Bearing → Force → Result (List ℕ) Refusal → Effect Bearing (Result (Unit {0}) Refusal)
passes takes b x (Err e) = refuses b e
passes takes b x (Ok f) =
    if takes (length f)
    then record { next = with_force (Some (numbered b.settings.numbering Counted x)) b; says = HandedOver f ∷ []; answer = Ok tt }
    else refuses b LineDeclines

abbrev pub data_on : (ℕ → Bool) → ℕ → ℕ → List ℕ → Bearing → Option Force → Effect Bearing (Result (Unit {0}) Refusal)
data_on takes rfci fqc payload b None = refuses b WrongPhase
data_on takes rfci fqc payload b (Some x) = passes takes b x (frame_for rfci fqc payload x)

abbrev pub data_sent : (ℕ → Bool) → ℕ → ℕ → List ℕ → Bearing → Effect Bearing (Result (Unit {0}) Refusal)
data_sent takes rfci fqc payload b = data_on takes rfci fqc payload b b.force

-- user data as it was read
pub record Data : Type 0 where
  pub header : DataHeader
  pub checksum : Option ℕ
  pub place : ℕ
  pub payload : List ℕ

abbrev pub data_of : UserData → Data
data_of d = record { header = d.header; checksum = d.checksum; place = d.place; payload = d.payload.now }

-- whether the payload is not what its checksum says
abbrev pub fails : Result (Unit {0}) Refusal → Bool
fails (Ok u) = false
fails (Err e) = true

abbrev pub damaged : Option ℕ → List ℕ → Bool
damaged checksum payload = fails (summed checksum payload)

-- how far a number is off the expected one
abbrev pub gap_of : Numbering → ℕ → ℕ → ℕ
gap_of Counted expected number = (number + 16 - expected) % 16
gap_of Timed expected number = 0

abbrev pub expected_next : Numbering → ℕ → Force → Force
expected_next Counted number x = record x { expected = (number + 1) % 16 }
expected_next Timed number x = x

-- the octets of a combination, and at most 4 of spare extension after them
abbrev pub fitted : (len bits : ℕ) → Result (Unit {0}) Refusal
fitted len bits =
    if nat_lt len (octets_for bits) then Err TooShort
    else if nat_lt (octets_for bits + 4) len then Err UnexpectedValue
    else Ok tt

-- damaged user data is told as bad where it is kept, and refused where not
abbrev pub quality_of : (keeps : Bool) → Data → Result ℕ Refusal
quality_of keeps d = if damaged d.checksum d.payload then (if keeps then Ok 1 else Err PayloadChecksum) else Ok d.header.fqc

-- what is told of a delivery
abbrev pub brings : Data → Numbering → Force → Found → (fqc : ℕ) → Delivery
brings d m x c fqc = record { rfci = d.header.rfci; fqc = fqc; gap = gap_of m x.expected d.header.number; place = d.place; subflows = c.places }

-- user data of a combination: its length, then its quality
abbrev pub brought_with : Data → Numbering → Force → Found → Result (Unit {0}) Refusal → Result ℕ Refusal → Result Delivery Refusal
brought_with d m x c (Err e) q = Err e
brought_with d m x c (Ok u) (Err e) = Err e
brought_with d m x c (Ok u) (Ok fqc) = Ok (brings d m x c fqc)

-- no such combination, or what is told of it
abbrev pub brought_of : Settings → Data → Force → Option Found → Result Delivery Refusal
brought_of s d x None = Err UnknownRfci
brought_of s d x (Some c) = brought_with d s.numbering x c (fitted (length d.payload) c.bits) (quality_of s.keep_damaged d)

abbrev pub judged : Settings → Data → Force → Result Delivery Refusal
judged s d x = if data_number d.header.data_type == data_number x.set.opening.data_type then brought_of s d x (looked_up d.header.rfci x.set.combinations) else Err UnexpectedPduType

-- what is delivered counts
abbrev pub counted : Numbering → Data → Result Delivery Refusal → Force → Force
counted m d (Ok t) x = expected_next m d.header.number x
counted m d (Err e) x = x

-- the same where a set is in force
abbrev pub told_on : Settings → Data → Option Force → Result Delivery Refusal
told_on s d None = Err UnexpectedPduType
told_on s d (Some x) = judged s d x

abbrev pub told_of : Data → Bearing → Result Delivery Refusal
told_of d b = told_on b.settings d b.force

abbrev pub counting_on : Numbering → Data → Result Delivery Refusal → Option Force → Option Force
counting_on m d t None = None
counting_on m d t (Some x) = Some (counted m d t x)

abbrev pub counting : Data → Result Delivery Refusal → Bearing → Bearing
counting d t b = with_force (counting_on b.settings.numbering d t b.force) b

-- a delivery, and where there is a gap an error event with cause 3
abbrev pub delivers : (ℕ → Bool) → Delivery → Bearing → Effect Bearing (Unit {0})
delivers takes t b =
    if t.gap == 0 then record { next = b; says = Delivered t ∷ []; answer = tt }
    else record { next = event_used b; says = Delivered t ∷ event takes 3 b ∷ []; answer = tt }

-- user data is delivered, or refused
abbrev pub got_as : (ℕ → Bool) → Data → Result Delivery Refusal → Bearing → Effect Bearing (Result (Unit {0}) Refusal)
got_as takes d (Err e) b = objects takes e b
got_as takes d (Ok t) b = let f = delivers takes t (counting d (Ok t) b) in record { next = f.next; says = f.says; answer = Ok tt }

abbrev pub got : (ℕ → Bool) → Data → Bearing → Effect Bearing (Result (Unit {0}) Refusal)
got takes d b = got_as takes d (told_of d b) b

-- a search changes nothing and says nothing; where a set is in force, it names any one of its combinations with exactly these sizes
abbrev pub Sought : List ℕ → Option Force → Result ℕ Refusal → Type 0
Sought sizes None r = r ≡ Err WrongPhase
Sought sizes (Some x) r = Searched sizes x.set.combinations r
