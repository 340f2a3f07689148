-- What the payload of each control frame says, or why it is refused.
use Rattle.std.specs.Prelude.{ℕ, ◌+◌, ◌-◌, ◌/◌, ◌%◌, ◌^◌, Bool, cond, List, map, drop, Ok, Err, Result, ◌==◌, nat_lt, slice_index}
use Rattle.std.specs.List.{range_with_len}
use Rattle.frames.specs.declared.refusal.Refusal.{Refusal}
use Rattle.frames.specs.declared.refusal.Refusal.TheVariants.{ReservedValue}
use Rattle.frames.specs.Distances.{distance_of}
use Rattle.frames.specs.Extent.{octets_for}
use Rattle.frames.specs.Values.{shift_of}
use Rattle.payloads.specs.declared.event.ErrorEvent.{ErrorEvent}
use Rattle.payloads.specs.Checks.{versioned, opened, within}

abbrev pub ack_in : (version : ℕ) → List ℕ → Result (Unit {0}) Refusal
ack_in version payload = versioned version (within 0 payload (Ok tt))

-- the cause is in the six high bits
abbrev pub nack_in : (version : ℕ) → List ℕ → Result ℕ Refusal
nack_in version payload = versioned version (within 1 payload (Ok (slice_index payload 0 / 4)))

-- the mark of RFCI k: eight to an octet, the first one highest; 1 bars
abbrev pub barred : List ℕ → ℕ → Bool
barred octets k = slice_index octets (k / 8) / 2 ^ (7 - k % 8) % 2 == 1

abbrev pub marks_at : (count : ℕ) → List ℕ → List Bool
marks_at count octets = map (barred octets) (range_with_len 0 count)

-- the count of marks is in the six low bits
abbrev pub count_in : List ℕ → ℕ
count_in payload = slice_index payload 0 % 64

abbrev pub marks_in : List ℕ → Result (List Bool) Refusal
marks_in payload =
    within (1 + octets_for (count_in payload)) payload (Ok (marks_at (count_in payload) (drop 1 payload)))

abbrev pub rate_in : (version checksum : ℕ) → List ℕ → Result (List Bool) Refusal
rate_in version checksum payload = opened version checksum payload (marks_in payload)

abbrev pub alignment_in : (version checksum : ℕ) → List ℕ → Result ℕ Refusal
alignment_in version checksum payload = opened version checksum payload (within 1 payload (shift_of (slice_index payload 0)))

-- the distance is in the two high bits, of which 3 is reserved, and the cause in the six low ones
abbrev pub event_of : ℕ → Result ErrorEvent Refusal
event_of octet =
    cond (nat_lt 2 (octet / 64)) (Err ReservedValue) (Ok (record { distance = distance_of (octet / 64); cause = octet % 64 }))

abbrev pub event_in : (version checksum : ℕ) → List ℕ → Result ErrorEvent Refusal
event_in version checksum payload = opened version checksum payload (within 1 payload (event_of (slice_index payload 0)))
