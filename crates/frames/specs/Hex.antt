-- Upper-case hexadecimal: two digits an octet, the high half first.
use Rattle.std.specs.Prelude.{ℕ, ◌+◌, ◌-◌, ◌*◌, ◌/◌, ◌%◌, Bool, cond, ◌&&◌, ◌||◌, List, [], ◌∷◌, length, Some, None, Option, Ok, Err, Result, ◌==◌, nat_le, nat_lt}
use Rattle.std.specs.List.{list_all, flat_map}
use Rattle.frames.specs.declared.refusal.Refusal.{Refusal}
use Rattle.frames.specs.declared.refusal.Refusal.TheVariants.{TooLong, Hexadecimal}
use Rattle.frames.specs.Frame.{longest}

-- '0' to '9' and 'A' to 'F'
abbrev pub is_digit : ℕ → Bool
is_digit c = (nat_le 48 c && nat_le c 57) || (nat_le 65 c && nat_le c 70)

abbrev pub value_of : ℕ → ℕ
value_of c = cond (nat_lt c 65) (c - 48) (c - 55)

-- the value of a byte of text, if it is a digit
abbrev pub value_in : ℕ → Option ℕ
value_in c = cond (is_digit c) (Some (value_of c)) None

-- the octet of two digits, the high half first
abbrev pub pair_in : ℕ → ℕ → Result ℕ Refusal
pair_in high low = cond (is_digit high && is_digit low) (Ok (value_of high * 16 + value_of low)) (Err Hexadecimal)

abbrev pub all_digits : List ℕ → Bool
all_digits = list_all is_digit

-- the octets of the digits, pair by pair
unfoldable pub octets_in : List ℕ → List ℕ
octets_in [] = []
octets_in (c ∷ []) = []
octets_in (c ∷ d ∷ cs) = (value_of c * 16 + value_of d) ∷ octets_in cs

-- an odd count or a strange digit comes before any other refusal
abbrev pub hex_in : List ℕ → Result (List ℕ) Refusal
hex_in cs =
    cond (all_digits cs && length cs % 2 == 0)
    (cond (nat_lt longest (length cs / 2)) (Err TooLong) (Ok (octets_in cs))) (Err Hexadecimal)

-- the digit of a value below 16
abbrev pub digit_of : ℕ → ℕ
digit_of v = cond (nat_lt v 10) (48 + v) (55 + v)

-- an octet as two digits
abbrev pub digits_of : ℕ → List ℕ
digits_of o = digit_of (o / 16) ∷ digit_of (o % 16) ∷ []

-- octets as digits
abbrev pub hex_text : List ℕ → List ℕ
hex_text os = flat_map digits_of os
