-- Values that fit their fields.
use Rattle.std.specs.Prelude.{ℕ, ◌+◌, ◌%◌, Bool, cond, ◌&&◌, ◌||◌, List, take, Ok, Err, Result, nat_le, nat_lt}
use Rattle.frames.specs.declared.refusal.Refusal.{Refusal}
use Rattle.frames.specs.declared.refusal.Refusal.TheVariants.{ValueRange, ReservedValue}
use Rattle.frames.specs.declared.shift.Direction.{Direction}
use Rattle.frames.specs.declared.shift.Direction.TheVariants.{Delay, Advance}

-- the octet that asks for some steps of 500 microseconds: the top bit says that they are an advance
abbrev pub steps_octet : Direction → ℕ → ℕ
steps_octet Delay steps = steps
steps_octet Advance steps = 128 + steps

-- a shift is known by its octet
abbrev pub direction_of : ℕ → Direction
direction_of octet = cond (nat_lt octet 128) Delay Advance

abbrev pub steps_of : ℕ → ℕ
steps_of octet = octet % 128

abbrev pub some_steps : ℕ → Bool
some_steps steps = nat_le 1 steps && nat_le steps 80

abbrev pub shift_by : Direction → ℕ → Result ℕ Refusal
shift_by direction steps = cond (some_steps steps) (Ok (steps_octet direction steps)) (Err ValueRange)

-- 1 to 80 delay, 129 to 208 advance, all else is reserved
abbrev pub shift_of : ℕ → Result ℕ Refusal
shift_of octet =
    cond ((nat_le 1 octet && nat_le octet 80) || (nat_le 129 octet && nat_le octet 208)) (Ok octet) (Err ReservedValue)

-- six bits count 0 to 63 marks; true bars
abbrev pub marks_in : ℕ → List Bool → Result (List Bool) Refusal
marks_in count bars = cond (nat_lt 63 count) (Err ValueRange) (Ok (take count bars))
