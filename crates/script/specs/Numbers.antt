-- Decimal numbers below 10^18.
use Rattle.std.specs.Prelude.{ℕ, ◌+◌, ◌-◌, ◌*◌, cond, ◌&&◌, List, [], ◌∷◌, length, Some, None, Err, Option, Result, ◌==◌, nat_le, ok_or, option_and_then}
use Rattle.std.specs.Char.{is_ascii_digit}
use Rattle.std.specs.Result.{result_map_both}
use Rattle.script.specs.declared.unclear.Unclear.{Unclear}
use Rattle.script.specs.declared.unclear.Unclear.TheVariants.{Value}

-- the number that digits write behind those of `n`, while it stays below 10^18
unfoldable pub decimal_on : ℕ → List ℕ → Option ℕ
decimal_on n [] = Some n
decimal_on n (c ∷ cs) = cond (is_ascii_digit c && nat_le n 99999999999999999) (decimal_on (n * 10 + (c - 48)) cs) None

-- a number that its place holds
abbrev pub up_to : ℕ → ℕ → Option ℕ
up_to most n = cond (nat_le n most) (Some n) None

-- a word of digits alone, at least one, whose number is at most `most`
abbrev pub number_in : ℕ → List ℕ → Result ℕ Unclear
number_in most word = cond (length word == 0) (Err Value) (ok_or (option_and_then (up_to most) (decimal_on 0 word)) Value)

-- what was read, as a number
abbrev pub read_as : {N : Type 0} → (N → ℕ) → Result N Unclear → Result ℕ Unclear
read_as value r = result_map_both value (λ u. u) r
