-- One step of each definition, for the loops, and the parity of bits after bits.
-- Assumes nothing.
use Rattle.std.proofs.Common.{◌≡◌, ℕ, zero, suc, ◌+◌, ◌-◌, ◌*◌, ◌/◌, ◌%◌, ◌^◌, ◌<◌, ◌≤◌, List, [], ◌∷◌, ◌++◌, length, get_or, drop, refl, ap, arith}
use lib.Bits.{bit_xor}
use Rattle.std.proofs.lemmas.List.{at_drop_more, at_drop_all}
use Rattle.checksum.specs.Division.{bits_of, octet_bits, reduced, parity}

pub parity-append : (w g s : ℕ) (xs ys : List ℕ) → parity w g s (xs ++ ys) ≡ parity w g (parity w g s xs) ys
unfolding parity
parity-append w g s [] ys = refl
parity-append w g s (x ∷ xs) ys = parity-append w g (reduced w g (bit_xor (s * 2) (x * 2 ^ w))) xs ys

-- a turn of the loop over the bits of an octet
pub bit_step : (w g s o k r : ℕ) → 0 < k → r ≡ reduced w g (bit_xor (s * 2) (o / 2 ^ (k - 1) % 2 * 2 ^ w)) → parity w g r (bits_of (k - 1) o) ≡ parity w g s (bits_of k o)
unfolding parity bits_of
bit_step w g s o zero r h e = absurd (omega arith)
bit_step w g s o (suc k) r h e =
    let p : suc k - 1 ≡ k = omega arith in
    simp (e, p)

pub bit_end : (w g s o k : ℕ) → k ≤ 0 → parity w g s (bits_of k o) ≡ s
unfolding parity bits_of
bit_end w g s o zero h = refl
bit_end w g s o (suc k) h = absurd (omega arith)

at_octets : (os : List ℕ) (i : ℕ) → i < length os → octet_bits (drop i os) ≡ bits_of 8 (get_or os i 0) ++ octet_bits (drop (i + 1) os)
unfolding octet_bits
at_octets os i h = at_drop_more octet_bits os i 0 h

-- a turn of the loop over octets
pub octet_step : (w g s r : ℕ) (os : List ℕ) (i : ℕ) → i < length os → r ≡ parity w g s (bits_of 8 (get_or os i 0)) → parity w g r (octet_bits (drop (i + 1) os)) ≡ parity w g s (octet_bits (drop i os))
octet_step w g s r os i h e =
    let m : parity w g s (octet_bits (drop i os)) ≡ parity w g s (bits_of 8 (get_or os i 0) ++ octet_bits (drop (i + 1) os)) =
    ap (parity w g s) (at_octets os i h) in
    let a = parity-append w g s (bits_of 8 (get_or os i 0)) (octet_bits (drop (i + 1) os)) in
    cc

pub octet_end : (w g s : ℕ) (os : List ℕ) (i : ℕ) → length os ≤ i → parity w g s (octet_bits (drop i os)) ≡ s
unfolding octet_bits parity
octet_end w g s os i h = at_drop_all (λ xs. parity w g s (octet_bits xs)) os i h
