-- The two bits of each distance.
use Rattle.std.specs.Prelude.{ℕ, cond, Ok, Err, Result, ◌==◌, nat_lt}
use Rattle.frames.specs.declared.refusal.Refusal.{Refusal}
use Rattle.frames.specs.declared.refusal.Refusal.TheVariants.{ReservedValue}
use Rattle.frames.specs.declared.distance.Distance.{Distance}
use Rattle.frames.specs.declared.distance.Distance.TheVariants.{Here, Beyond, FarBeyond}

abbrev pub distance_code : Distance → ℕ
distance_code Here = 0
distance_code Beyond = 1
distance_code FarBeyond = 2

-- the distance of a code up to 2
abbrev pub distance_of : ℕ → Distance
distance_of n = cond (n == 0) Here (cond (n == 1) Beyond FarBeyond)

-- the codes over 2 are reserved
abbrev pub distance_in : ℕ → Result Distance Refusal
distance_in n = cond (nat_lt 2 n) (Err ReservedValue) (Ok (distance_of n))
