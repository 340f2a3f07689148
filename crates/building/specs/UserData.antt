-- User data: a payload of some bits, in the least number of octets, padded with zeros.
use Rattle.std.specs.Prelude.{ℕ, ◌+◌, ◌-◌, ◌*◌, ◌/◌, ◌%◌, ◌^◌, cond, ◌&&◌, List, [], ◌∷◌, ◌++◌, length, take, Err, Result, ◌==◌, nat_le, slice_index}
use Rattle.frames.specs.declared.data_type.DataType.{DataType}
use Rattle.frames.specs.declared.data_type.DataType.TheVariants.{Checked, Plain}
use Rattle.frames.specs.declared.refusal.Refusal.{Refusal}
use Rattle.frames.specs.declared.refusal.Refusal.TheVariants.{ValueRange, OctetCount}
use Rattle.frames.specs.Extent.{octets_for}
use Rattle.frames.specs.Joined.{fitting}
use Rattle.building.specs.Building.{framed, plain}

-- the high bits of an octet, with zeros after them
abbrev pub high_bits : ℕ → ℕ → ℕ
high_bits n octet = octet / 2 ^ (8 - n) * 2 ^ (8 - n)

-- the bits of a payload: whole octets, and what is over in one more
abbrev pub padded : ℕ → List ℕ → List ℕ
padded bits payload =
    cond (bits % 8 == 0) payload (take (bits / 8) payload ++ high_bits (bits % 8) (slice_index payload (bits / 8)) ∷ [])

-- type and number; FQC and RFCI
abbrev pub user_frame : DataType → (number fqc rfci : ℕ) → List ℕ → List ℕ
user_frame Checked number fqc rfci payload = framed number (fqc * 64 + rfci) payload
user_frame Plain number fqc rfci payload = plain (16 + number) (fqc * 64 + rfci) payload

-- a payload in another number of octets, a field out of its range, a frame too long: the first that holds decides
abbrev pub user_data : DataType → (number fqc rfci bits : ℕ) → List ℕ → Result (List ℕ) Refusal
user_data type number fqc rfci bits payload =
    cond (length payload == octets_for bits)
    (cond (nat_le number 15 && nat_le fqc 3 && nat_le rfci 63) (fitting (user_frame type number fqc rfci (padded bits payload))) (Err ValueRange))
    (Err OctetCount)
