-- What the header of a frame says, or why the frame is refused.
use Rattle.std.specs.Prelude.{ℕ, ◌-◌, ◌/◌, cond, List, ◌++◌, codes, length, Ok, Err, Result, ◌==◌, nat_lt, slice_index}
use Rattle.std.specs.Fmt.{decimal}
use Rattle.checksum.specs.Division.{header_sum}
use Rattle.frames.specs.declared.refusal.Refusal.{Refusal}
use Rattle.frames.specs.declared.refusal.Refusal.TheVariants.{TooLong, TooShort, HeaderChecksum}
use Rattle.frames.specs.declared.refusal.Refusal.TheVariants.{PduType as NoSuchType}
use Rattle.frames.specs.declared.header.PduType.{PduType}
use Rattle.frames.specs.declared.header.PduType.TheVariants.{CheckedData, PlainData, Control}
use Rattle.frames.specs.declared.header.Header.{Header}
use Rattle.frames.specs.Frame.{longest}

abbrev pub type_number : PduType → ℕ
type_number CheckedData = 0
type_number PlainData = 1
type_number Control = 14

-- the type of a number
abbrev pub type_in : ℕ → Result PduType Refusal
type_in n =
    cond (n == 0) (Ok CheckedData) (cond (n == 1) (Ok PlainData) (cond (n == 14) (Ok Control) (Err NoSuchType)))

-- a header as text: the type, the length of the header and that of the payload
abbrev pub header_text : Header → List ℕ
header_text h =
    decimal (type_number h.pdu_type) ++ (codes " " ++ (decimal h.header_length ++ (codes " " ++ decimal h.payload_length)))

-- a frame of n octets whose header has h: the rest is payload
abbrev pub divided : PduType → ℕ → ℕ → Result Header Refusal
divided t h n = cond (nat_lt n h) (Err TooShort) (Ok (record { pdu_type = t; header_length = h; payload_length = n - h }))

-- the types with a payload checksum have one octet more of header
abbrev pub typed : ℕ → ℕ → Result Header Refusal
typed t n =
    cond (t == 0) (divided CheckedData 4 n)
    (cond (t == 1) (divided PlainData 3 n)
    (cond (t == 14) (divided Control 4 n) (Err NoSuchType)))

-- too long, too short, a wrong header checksum, an unknown type, too short for its type: the first that holds decides
abbrev pub header_in : List ℕ → Result Header Refusal
header_in o =
    cond (nat_lt longest (length o)) (Err TooLong)
    (cond (nat_lt (length o) 3) (Err TooShort)
    (cond (slice_index o 2 / 4 == header_sum (slice_index o 0) (slice_index o 1)) (typed (slice_index o 0 / 16) (length o))
    (Err HeaderChecksum)))
