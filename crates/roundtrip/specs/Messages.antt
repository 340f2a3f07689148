-- Whole frames, header and payload: what is told by one that was received, and the octets of one that is sent.
use Rattle.std.specs.Prelude.{ℕ, Bool, List, Ok, Err, Result}
use Rattle.frames.specs.declared.data_type.DataType.{DataType}
use Rattle.frames.specs.declared.distance.Distance.{Distance}
use Rattle.frames.specs.declared.procedure.Procedure.{Procedure}
use Rattle.frames.specs.declared.procedure.Procedure.TheVariants.{Initialisation, RateControl, TimeAlignment, ErrorEvent}
use Rattle.frames.specs.declared.refusal.Refusal.{Refusal}
use Rattle.frames.specs.Contents.{Contents, parsed}
use Rattle.frames.specs.Contents as seen
use Rattle.frames.specs.Distances.{distance_code}
use Rattle.frames.specs.Procedures.{code_of}
use Rattle.payloads.specs.Checks.{opened, summed}
use Rattle.payloads.specs.Payloads.{ack_in, nack_in, rate_in, alignment_in, event_in}
use Rattle.building.specs.Building.{question_frame, ack_frame, nack_frame, alignment_frame, error_frame}
use Rattle.building.specs.Rates.{rate_frame}
use Rattle.building.specs.UserData.{user_frame}

-- every kind of frame with what its fields say; the links of an initialisation are whole octets here
pub data Message : Type 0 where
  user : (type : DataType) (number fqc rfci : ℕ) (payload : List ℕ) → Message
  link : (number : ℕ) (payload : List ℕ) → Message
  rate : (number : ℕ) (bars : List Bool) → Message
  alignment : (number octet : ℕ) → Message
  event : (number : ℕ) (distance : Distance) (cause : ℕ) → Message
  ack : (procedure : Procedure) (number : ℕ) → Message
  nack : (procedure : Procedure) (number cause : ℕ) → Message

-- the same refusal, or the value in other words
abbrev pub mapped : {A B : Type 0} → (A → B) → Result A Refusal → Result B Refusal
mapped f (Ok x) = Ok (f x)
mapped f (Err e) = Err e

-- the payload of a question is read by its procedure
abbrev pub asked : Procedure → (number version checksum : ℕ) → List ℕ → Result Message Refusal
asked Initialisation n v c x = opened v c x (Ok (link n x))
asked RateControl n v c x = mapped (rate n) (rate_in v c x)
asked TimeAlignment n v c x = mapped (alignment n) (alignment_in v c x)
asked ErrorEvent n v c x = mapped (λ e. event n e.distance e.cause) (event_in v c x)

abbrev pub heard : Contents → Result Message Refusal
heard (seen.user_data t n f i c p x) = mapped (λ _. user t n f i x) (summed c x)
heard (seen.question n v q c p x) = asked q n v c x
heard (seen.ack n v q p x) = mapped (λ _. ack q n) (ack_in v x)
heard (seen.nack n v q p x) = mapped (nack q n) (nack_in v x)

abbrev pub read_on : Result Contents Refusal → Result Message Refusal
read_on (Ok c) = heard c
read_on (Err e) = Err e

-- what a received frame tells, header and payload, or why it is refused
abbrev pub told : List ℕ → Result Message Refusal
told o = read_on (parsed o)

-- the octets of a frame that is sent
abbrev pub sent : Message → List ℕ
sent (user t n f i x) = user_frame t n f i x
sent (link n x) = question_frame 0 n x
sent (rate n bars) = rate_frame n bars
sent (alignment n o) = alignment_frame n o
sent (event n d c) = error_frame n (distance_code d) c
sent (ack q n) = ack_frame (code_of q) n
sent (nack q n c) = nack_frame (code_of q) n c

-- a received frame, read and built again
abbrev pub rebuilt : List ℕ → Result (List ℕ) Refusal
rebuilt o = mapped sent (told o)
