-- The steps of reading a number.
use Rattle.std.proofs.Common.{◌≡◌, ℕ, ◌+◌, ◌-◌, ◌*◌, ◌<◌, ◌≤◌, true, false, cond, ◌&&◌, leb, List, length, get_or, drop, Some, None, refl}
use Rattle.std.proofs.lemmas.List.{at_drop_more, at_drop_all}
use Rattle.std.specs.Char.{is_ascii_digit}
use Rattle.script.specs.Numbers.{decimal_on}

pub decimal_step : (n : ℕ) (cs : List ℕ) (i : ℕ) → i < length cs → decimal_on n (drop i cs) ≡ cond (is_ascii_digit (get_or cs i 0) && leb n 99999999999999999) (decimal_on (n * 10 + (get_or cs i 0 - 48)) (drop (i + 1) cs)) None
unfolding decimal_on
decimal_step n cs i h = at_drop_more (decimal_on n) cs i 0 h

pub decimal_end : (n : ℕ) (cs : List ℕ) (i : ℕ) → length cs ≤ i → decimal_on n (drop i cs) ≡ Some n
unfolding decimal_on
decimal_end n cs i h = at_drop_all (decimal_on n) cs i h

pub decimal_stop : (n : ℕ) (cs : List ℕ) (i : ℕ) → i < length cs → (is_ascii_digit (get_or cs i 0) && leb n 99999999999999999) ≡ false → decimal_on n (drop i cs) ≡ None
decimal_stop n cs i h e = rw (decimal_step n cs i h, e) refl

pub decimal_past : (n : ℕ) (cs : List ℕ) (i : ℕ) → i < length cs → (is_ascii_digit (get_or cs i 0) && leb n 99999999999999999) ≡ true → decimal_on (n * 10 + (get_or cs i 0 - 48)) (drop (i + 1) cs) ≡ decimal_on n (drop i cs)
decimal_past n cs i h e = rw (decimal_step n cs i h, e) refl
