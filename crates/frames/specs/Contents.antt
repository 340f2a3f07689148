-- What the octets of a frame say, or why they are refused.
use Rattle.std.specs.Prelude.{ℕ, ◌+◌, ◌*◌, ◌/◌, ◌%◌, ◌<◌, ◌≤◌, cond, List, length, drop, Some, None, Ok, Err, Option, Result, ◌==◌, nat_lt, slice_index, slice_index_or}
use Rattle.frames.specs.declared.refusal.Refusal.{Refusal}
use Rattle.frames.specs.declared.refusal.Refusal.TheVariants.{ReservedValue}
use Rattle.frames.specs.declared.refusal.Refusal.TheVariants.{Procedure as NoSuchProcedure}
use Rattle.frames.specs.declared.data_type.DataType.{DataType}
use Rattle.frames.specs.declared.data_type.DataType.TheVariants.{Checked, Plain}
use Rattle.frames.specs.declared.procedure.Procedure.{Procedure}
use Rattle.frames.specs.declared.header.PduType.{PduType}
use Rattle.frames.specs.declared.header.PduType.TheVariants.{CheckedData, PlainData, Control}
use Rattle.frames.specs.declared.header.Header.{Header}
use Rattle.frames.specs.declared.frame.Frame.{Frame}
use Rattle.frames.specs.declared.frame.Frame.TheVariants.{UserData, Question, Answer}
use Rattle.frames.specs.declared.frame.AckNack.{AckNack}
use Rattle.frames.specs.declared.frame.AckNack.TheVariants.{Ack, Nack}
use Rattle.frames.specs.declared.frame.Answer.{Answer as AnAnswer}
use Rattle.frames.specs.Headers.{header_in}
use Rattle.frames.specs.Procedures.{procedure_of}

-- a frame's contents, with its payload as a list
pub data Contents : Type 0 where
  user_data : (type : DataType) (number fqc rfci : ℕ) (checksum : Option ℕ) (place : ℕ) (payload : List ℕ) → Contents
  question : (number version : ℕ) (procedure : Procedure) (checksum place : ℕ) (payload : List ℕ) → Contents
  ack : (number version : ℕ) (procedure : Procedure) (place : ℕ) (payload : List ℕ) → Contents
  nack : (number version : ℕ) (procedure : Procedure) (place : ℕ) (payload : List ℕ) → Contents

-- an answer, with its payload as a list
pub record Reply : Type 0 where
  pub ack_nack : AckNack
  pub number : ℕ
  pub version : ℕ
  pub procedure : Procedure
  pub payload : List ℕ

-- what an answer of the code says
abbrev pub reply : AnAnswer → Reply
reply a = record { ack_nack = a.ack_nack; number = a.number; version = a.version; procedure = a.procedure; payload = a.payload.now }

-- an answer's contents, by whether it accepts
abbrev pub replied : AckNack → (number version : ℕ) → Procedure → (place : ℕ) → List ℕ → Contents
replied Ack number version procedure place payload = ack number version procedure place payload
replied Nack number version procedure place payload = nack number version procedure place payload

-- what a frame of the code says
abbrev pub content : Frame → Contents
content (UserData d) =
    user_data d.header.data_type d.header.number d.header.fqc d.header.rfci d.checksum d.place d.payload.now
content (Question q) = question q.number q.version q.procedure q.checksum q.place q.payload.now
content (Answer a) = replied a.ack_nack a.number a.version a.procedure a.place a.payload.now

-- what the code's answer says
abbrev pub seen : Result Frame Refusal → Result Contents Refusal
seen (Ok f) = Ok (content f)
seen (Err e) = Err e

-- the ten bits after the header checksum
abbrev pub sum_field : List ℕ → ℕ
sum_field o = slice_index o 2 % 4 * 256 + slice_index o 3

-- Ack/Nack is in bits 3 and 2 of the first octet, the number in the two below; the version field in the high half of the second, the procedure in the low one
abbrev pub controlled : List ℕ → Contents
controlled o =
    let a = slice_index_or o 0 0 in
    let b = slice_index_or o 1 0 in
    cond (a / 4 % 4 == 0) (question (a % 4) (b / 16) (procedure_of (b % 16)) (sum_field o) 4 (drop 4 o))
    (cond (a / 4 % 4 == 1) (ack (a % 4) (b / 16) (procedure_of (b % 16)) 4 (drop 4 o))
    (nack (a % 4) (b / 16) (procedure_of (b % 16)) 4 (drop 4 o)))

-- the number is in the low half of the first octet, FQC in the two high bits of the second, RFCI in the six below
abbrev pub contents : PduType → List ℕ → Result Contents Refusal
contents CheckedData o =
    Ok (user_data Checked (slice_index o 0 % 16) (slice_index o 1 / 64) (slice_index o 1 % 64) (Some (sum_field o)) 4 (drop 4 o))
contents PlainData o =
    Ok (user_data Plain (slice_index o 0 % 16) (slice_index o 1 / 64) (slice_index o 1 % 64) None 3 (drop 3 o))
contents Control o =
    cond (slice_index o 0 / 4 % 4 == 3) (Err ReservedValue)
    (cond (nat_lt 3 (slice_index o 1 % 16)) (Err NoSuchProcedure) (Ok (controlled o)))

abbrev pub behind : Result Header Refusal → List ℕ → Result Contents Refusal
behind (Ok h) o = contents h.pdu_type o
behind (Err e) o = Err e

-- the header decides first
abbrev pub parsed : List ℕ → Result Contents Refusal
parsed o = behind (header_in o) o

-- the ranges of the fields, and room for no more than a frame has
abbrev pub Fit : Contents → Type 0
Fit (user_data t n f i c p x) = (n < 16) × (f < 4) × (i < 64) × (p + length x ≤ 512) × (3 ≤ p)
Fit (question n v p c l x) = (n < 4) × (v < 16) × (c < 1024) × (l + length x ≤ 512) × (4 ≤ l)
Fit (ack n v p l x) = (n < 4) × (v < 16) × (l + length x ≤ 512) × (4 ≤ l)
Fit (nack n v p l x) = (n < 4) × (v < 16) × (l + length x ≤ 512) × (4 ≤ l)
