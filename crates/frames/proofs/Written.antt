-- Octets written as digits, and read back.
use Rattle.std.proofs.Common.{◌≡◌, ℕ, ◌+◌, ◌-◌, ◌*◌, ◌/◌, ◌%◌, ◌^◌, ◌<◌, ◌≤◌, true, false, List, [], ◌∷◌, ◌++◌, length, take, get_or, Ok, refl, ap, arith, suc}
use Rattle.std.proofs.lemmas.Bool.Decides.{nat_tests}
use Rattle.std.proofs.lemmas.List.{take_more, flat_map_more}
use Rattle.std.proofs.lemmas.Fmt.{hex_byte}
use Rattle.std.specs.Fmt.{digits, padded_integral, format_spec}
use Rattle.frames.specs.Hex.{is_digit, value_of, all_digits, octets_in, hex_in, digit_of, digits_of, hex_text}

digit_is : (v : ℕ) → v < 16 → is_digit (digit_of v) ≡ true
digit_is v h = grind (arith, nat_tests)

value_back : (v : ℕ) → v < 16 → value_of (digit_of v) ≡ v
value_back v h = grind (arith, nat_tests)

digits_back : (os : List ℕ) → ((k : ℕ) → get_or os k 0 < 256) → all_digits (hex_text os) ≡ true
digits_back [] b = refl
digits_back (o ∷ os) b =
    let n = b 0 in
    let h = digit_is (o / 16) (omega arith) in
    let l = digit_is (o % 16) (omega arith) in
    rw (h, l) (digits_back os (λ k. b (suc k)))

two_each : (os : List ℕ) → length (hex_text os) ≡ 2 * length os
two_each [] = refl
two_each (o ∷ os) = omega (arith, two_each os)

octets_back : (os : List ℕ) → ((k : ℕ) → get_or os k 0 < 256) → octets_in (hex_text os) ≡ os
unfolding octets_in
octets_back [] b = refl
octets_back (o ∷ os) b =
    let n = b 0 in
    let h = value_back (o / 16) (omega arith) in
    let l = value_back (o % 16) (omega arith) in
    let e : o / 16 * 16 + o % 16 ≡ o = omega arith in
    rw (h, l, e) (ap (λ (t : List ℕ). o ∷ t) (octets_back os (λ k. b (suc k))))

-- a frame's octets are read back
pub read_back : (os : List ℕ) → ((k : ℕ) → get_or os k 0 < 256) → length os ≤ 512 → hex_in (hex_text os) ≡ Ok os
read_back os b h =
    let d = digits_back os b in
    let n = two_each os in
    let o = octets_back os b in
    let e : length (hex_text os) % 2 ≡ 0 = omega arith in
    let f : length (hex_text os) / 2 ≤ 512 = omega arith in
    rw (d, o) (grind (arith, nat_tests))

-- one octet more is written
pub text_more : (os : List ℕ) (i o : ℕ) → i < length os → get_or os i 0 ≡ o → o < 256 → hex_text (take i os) ++ padded_integral (format_spec 32 0 4 2 (2 ^ 64 - 1)) false [] (digits 16 true o) ≡ hex_text (take (i + 1) os)
text_more os i o h e b = rw (hex_byte true o b, take_more os i 0 h, e) (flat_map_more digits_of [] (take i os) o)
