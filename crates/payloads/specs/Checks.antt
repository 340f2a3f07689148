-- What is checked of a payload before its fields are read, in this order: version, checksum, too short, too long.
use Rattle.std.specs.Prelude.{ℕ, ◌+◌, cond, List, length, Some, None, Ok, Err, Option, Result, ◌==◌, nat_lt}
use Rattle.checksum.specs.Division.{payload_sum}
use Rattle.frames.specs.declared.refusal.Refusal.{Refusal}
use Rattle.frames.specs.declared.refusal.Refusal.TheVariants.{ModeVersion, PayloadChecksum, TooShort, UnexpectedValue}

-- mode version 1 has 0 in the version field
abbrev pub versioned : {A : Type 0} → (version : ℕ) → Result A Refusal → Result A Refusal
versioned version rest = cond (version == 0) rest (Err ModeVersion)

-- a question: the version, and the checksum over the whole payload
abbrev pub opened : {A : Type 0} → (version checksum : ℕ) → List ℕ → Result A Refusal → Result A Refusal
opened version checksum payload rest =
    versioned version (cond (checksum == payload_sum payload) rest (Err PayloadChecksum))

-- the octets of the fields, and at most 32 of a spare extension
abbrev pub within : {A : Type 0} → (fields : ℕ) → List ℕ → Result A Refusal → Result A Refusal
within fields payload rest =
    cond (nat_lt (length payload) fields) (Err TooShort) (cond (nat_lt (fields + 32) (length payload)) (Err UnexpectedValue) rest)

-- user data, where it has a checksum
abbrev pub summed : Option ℕ → List ℕ → Result (Unit {0}) Refusal
summed (Some sum) payload = cond (sum == payload_sum payload) (Ok tt) (Err PayloadChecksum)
summed None payload = Ok tt
