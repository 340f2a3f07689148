-- The octets of each kind of frame that is sent. Every version field is 0, and so are spare and padding bits.
use Rattle.std.specs.Prelude.{ℕ, ◌+◌, ◌*◌, ◌/◌, ◌%◌, List, [], ◌∷◌}
use Rattle.checksum.specs.Division.{header_sum, payload_sum}

-- two octets, the checksum over them, and one of ten bits over the payload
abbrev pub header : (first second sum : ℕ) → List ℕ
header first second sum = first ∷ second ∷ (header_sum first second * 4 + sum / 256) ∷ (sum % 256) ∷ []

-- two octets, the checksum over them and that of the payload, and the payload
abbrev pub framed : ℕ → ℕ → List ℕ → List ℕ
framed first second payload =
    first ∷ second ∷ (header_sum first second * 4 + payload_sum payload / 256) ∷ (payload_sum payload % 256) ∷ payload

-- the same with spare bits in the place of the payload's checksum
abbrev pub spared : ℕ → ℕ → List ℕ → List ℕ
spared first second payload = first ∷ second ∷ (header_sum first second * 4) ∷ 0 ∷ payload

-- type 14, Ack/Nack 0, and the number; version field 0 and the procedure
abbrev pub question_frame : (procedure number : ℕ) → List ℕ → List ℕ
question_frame procedure number payload = framed (224 + number) procedure payload

-- Ack/Nack 1
abbrev pub ack_frame : (procedure number : ℕ) → List ℕ
ack_frame procedure number = spared (228 + number) procedure []

-- Ack/Nack 2; the cause and two spare bits
abbrev pub nack_frame : (procedure number cause : ℕ) → List ℕ
nack_frame procedure number cause = spared (232 + number) procedure ((cause * 4) ∷ [])

-- procedure 2; the octet that asks for the shift
abbrev pub alignment_frame : (number octet : ℕ) → List ℕ
alignment_frame number octet = question_frame 2 number (octet ∷ [])

-- procedure 3; the distance and the cause
abbrev pub error_frame : (number distance cause : ℕ) → List ℕ
error_frame number distance cause = question_frame 3 number ((distance * 64 + cause) ∷ [])

-- the header of type 1 has no place for a checksum of the payload
abbrev pub plain : ℕ → ℕ → List ℕ → List ℕ
plain first second payload = first ∷ second ∷ (header_sum first second * 4) ∷ payload
