-- The parity of bits makes their remainder 0, and no other number does.
-- Assumes nothing.
use Rattle.std.proofs.Common.{◌≡◌, ℕ, zero, suc, ◌+◌, ◌*◌, ◌/◌, ◌%◌, ◌^◌, ◌<◌, ◌≤◌, List, [], ◌∷◌, ◌++◌, sym, refl, ap, ◌∙◌, inl, inr, add-zero, mod-eq_of_lt, mul_assoc, arith, lit<, lit≤}
use lib.Bits.{bit_xor, xor_assoc, xor_self, xor_zero_l, xor_zero_r, xor_shifted, xor_block}
use Rattle.std.proofs.lemmas.Nat.{pow_pos, pow-add, pow_below, xor_lt, xor_comm, mod-pow-add, mod_below}
use Rattle.std.proofs.lemmas.Bool.{cases_lt}
use Rattle.checksum.specs.Division.{bits_of, octet_bits, reduced, remainder, parity, Checks, parity_of}
use Rattle.checksum.proofs.Reduced.{keeps, takes, xor_low, xor_high, xor_wide, reduced_below, digit_below}

-- the same taken off both leaves the sum
pub xor_both : (x y g : ℕ) → bit_xor (bit_xor x g) (bit_xor y g) ≡ bit_xor x y
xor_both x y g =
    let a : bit_xor (bit_xor x g) (bit_xor y g) ≡ bit_xor x (bit_xor g (bit_xor y g)) = xor_assoc x g (bit_xor y g) in
    let b : bit_xor g (bit_xor y g) ≡ bit_xor (bit_xor y g) g = xor_comm g (bit_xor y g) in
    let d : bit_xor (bit_xor y g) g ≡ bit_xor y (bit_xor g g) = xor_assoc y g g in
    let e : bit_xor g g ≡ 0 = xor_self g in
    let f : bit_xor y 0 ≡ y = xor_zero_r y in
    cc

pub xor_doubled : (a b : ℕ) → bit_xor (a * 2) (b * 2) ≡ bit_xor a b * 2
xor_doubled a b = simp add-zero at (xor_block 1 a b 0 0 (omega arith) (omega arith))

-- each is a bit
abbrev pub Bits : List ℕ → Type 0
Bits [] = Unit {0}
Bits (b ∷ bs) = (b < 2) × Bits bs

pub bits-append : (xs ys : List ℕ) → Bits xs → Bits ys → Bits (xs ++ ys)
bits-append [] ys h k = k
bits-append (x ∷ xs) ys h k = (h.0, bits-append xs ys h.1 k)

pub Bits-bits_of : (n x : ℕ) → Bits (bits_of n x)
unfolding bits_of
Bits-bits_of zero x = tt
Bits-bits_of (suc n) x = (mod_below (x / 2 ^ n) 2 (omega arith), Bits-bits_of n x)

pub bits-octets : (os : List ℕ) → Bits (octet_bits os)
unfolding octet_bits
bits-octets [] = tt
bits-octets (o ∷ os) = bits-append (bits_of 8 o) (octet_bits os) (Bits-bits_of 8 o) (bits-octets os)

pub remainder-append : (w g r : ℕ) (xs ys : List ℕ) → remainder w g r (xs ++ ys) ≡ remainder w g (remainder w g r xs) ys
unfolding remainder
remainder-append w g r [] ys = refl
remainder-append w g r (x ∷ xs) ys = remainder-append w g (reduced w g (r * 2 + x)) xs ys

-- r times D ^ k, reduced
abbrev pub times : ℕ → ℕ → ℕ → ℕ → ℕ
times w g zero r = r
times w g (suc k) r = reduced w g (times w g k r * 2)

module _ (w g : ℕ) (pos : 1 ≤ w) (lg : 2 ^ w ≤ g) (hg : g < 2 * 2 ^ w) where
  pub reduced_xor : (x y : ℕ) → x < 2 * 2 ^ w → y < 2 * 2 ^ w → reduced w g (bit_xor x y) ≡ bit_xor (reduced w g x) (reduced w g y)
  reduced_xor x y hx hy =
      elim (cases_lt x (2 ^ w)) [
        | inl a ↦ elim (cases_lt y (2 ^ w)) [
          | inl b ↦
              let p = keeps w g x a in let q = keeps w g y b in
              let r = keeps w g (bit_xor x y) (xor_lt w x y a b) in cc
          | inr b ↦
              let p = keeps w g x a in let q = takes w g y b in
              let r = takes w g (bit_xor x y) (xor_high w x y a hy b) in
              let s = xor_assoc x y g in cc
        ]
        | inr a ↦ elim (cases_lt y (2 ^ w)) [
          | inl b ↦
              let p = takes w g x a in let q = keeps w g y b in
              let t : bit_xor x y ≡ bit_xor y x = xor_comm x y in
              let r = takes w g (bit_xor y x) (xor_high w y x b hx a) in
              let s : bit_xor (bit_xor y x) g ≡ bit_xor y (bit_xor x g) = xor_assoc y x g in
              let u : bit_xor y (bit_xor x g) ≡ bit_xor (bit_xor x g) y = xor_comm y (bit_xor x g) in cc
          | inr b ↦
              let p = takes w g x a in let q = takes w g y b in
              let r = keeps w g (bit_xor x y) (xor_low w x y hx a hy b) in
              let s = xor_both x y g in cc
        ]
      ]

  pub times_below : (k r : ℕ) → r < 2 ^ w → times w g k r < 2 ^ w
  times_below zero r h = h
  times_below (suc k) r h = let i = times_below k r h in reduced_below w g (times w g k r * 2) lg hg (omega arith)

  pub times_xor : (k a b : ℕ) → a < 2 ^ w → b < 2 ^ w → times w g k (bit_xor a b) ≡ bit_xor (times w g k a) (times w g k b)
  times_xor zero a b ha hb = refl
  times_xor (suc k) a b ha hb =
      let i : times w g k (bit_xor a b) ≡ bit_xor (times w g k a) (times w g k b) = times_xor k a b ha hb in
      let d = xor_doubled (times w g k a) (times w g k b) in
      let p = times_below k a ha in
      let q = times_below k b hb in
      ap (λ (n : ℕ). reduced w g (n * 2)) i ∙ ap (reduced w g) (sym d)
      ∙ reduced_xor (times w g k a * 2) (times w g k b * 2) (omega arith) (omega arith)

  pub times_step : (k r : ℕ) → times w g k (reduced w g (r * 2)) ≡ reduced w g (times w g k r * 2)
  times_step zero r = refl
  times_step (suc k) r = ap (λ (n : ℕ). reduced w g (n * 2)) (times_step k r)

  one_below : 2 ≤ 2 ^ w
  one_below = elim (cases_lt 1 w) [ inl h ↦ omega (arith, pow_below 1 w h) | inr h ↦ (let e : w ≡ 1 = omega arith in rw e (omega arith)) ]

  digit_low : (b k : ℕ) → b < 2 → k < w → b * 2 ^ k < 2 ^ w
  digit_low b k hb hk =
      let d : b * 2 ^ k < 2 * 2 ^ k = digit_below b (2 ^ k) hb (pow_pos k) in
      let e : 2 ^ (1 + k) ≡ 2 * 2 ^ k = pow-add 2 1 k in
      elim (cases_lt (1 + k) w) [ inl h ↦ omega (arith, pow_below (1 + k) w h) | inr h ↦ (let q : w ≡ 1 + k = omega arith in rw q (omega arith)) ]

  pub times_bit : (k b : ℕ) → b < 2 → k ≤ w → times w g k b ≡ reduced w g (b * 2 ^ k)
  times_bit zero b hb hk =
      let o = one_below in
      let e : b * 1 ≡ b = omega arith in
      sym (ap (reduced w g) e ∙ keeps w g b (omega arith))
  times_bit (suc k) b hb hk =
      let i : times w g k b ≡ reduced w g (b * 2 ^ k) = times_bit k b hb (omega arith) in
      let l = keeps w g (b * 2 ^ k) (digit_low b k hb hk) in
      let e : 2 ^ (k + 1) ≡ 2 ^ k * 2 = pow-add 2 k 1 in
      let s : k + 1 ≡ suc k = omega arith in
      let m : b * 2 ^ k * 2 ≡ b * (2 ^ k * 2) = mul_assoc b (2 ^ k) 2 in
      ap (λ (n : ℕ). reduced w g (n * 2)) (i ∙ l) ∙ ap (reduced w g) (m ∙ ap (λ (n : ℕ). b * n) (sym e ∙ ap (λ (n : ℕ). 2 ^ n) s))

  -- a bit at the end, k places on
  pub times-next : (k r b : ℕ) → r < 2 ^ w → b < 2 → k ≤ w → times w g k (reduced w g (r * 2 + b)) ≡ bit_xor (reduced w g (times w g k r * 2)) (reduced w g (b * 2 ^ k))
  times-next k r b hr hb hk =
      let o = one_below in
      let x : bit_xor (r * 2) b ≡ r * 2 + b = xor_shifted r 1 b hb in
      let l : reduced w g (bit_xor (r * 2) b) ≡ bit_xor (reduced w g (r * 2)) (reduced w g b) = reduced_xor (r * 2) b (omega arith) (omega arith) in
      let m : reduced w g b ≡ b = keeps w g b (omega arith) in
      let n : times w g k (bit_xor (reduced w g (r * 2)) b) ≡ bit_xor (times w g k (reduced w g (r * 2))) (times w g k b) =
      times_xor k (reduced w g (r * 2)) b (reduced_below w g (r * 2) lg hg (omega arith)) (omega arith) in
      let s = times_step k r in
      let t = times_bit k b hb hk in
      cc

  pub parity_is : (r : ℕ) (bs : List ℕ) → r < 2 ^ w → Bits bs → parity w g (times w g w r) bs ≡ times w g w (remainder w g r bs)
  unfolding parity remainder
  parity_is r [] hr h = refl
  parity_is r (b ∷ bs) hr h =
      let n = times-next w r b hr h.0 (omega arith) in
      let t = times_below w r hr in
      let o = one_below in
      let l = reduced_xor (times w g w r * 2) (b * 2 ^ w) (omega arith) (digit_below b (2 ^ w) h.0 (pow_pos w)) in
      let hb = h.0 in
      ap (λ (n : ℕ). parity w g n bs) (l ∙ sym n) ∙ parity_is (reduced w g (r * 2 + b)) bs (reduced_below w g (r * 2 + b) lg hg (omega arith)) h.1

  pub remainder_below : (r : ℕ) (bs : List ℕ) → r < 2 ^ w → Bits bs → remainder w g r bs < 2 ^ w
  unfolding remainder
  remainder_below r [] hr h = hr
  remainder_below r (b ∷ bs) hr h =
      let hb = h.0 in remainder_below (reduced w g (r * 2 + b)) bs (reduced_below w g (r * 2 + b) lg hg (omega arith)) h.1

  pub last_bits : (k r p : ℕ) → r < 2 ^ w → k ≤ w → remainder w g r (bits_of k p) ≡ bit_xor (times w g k r) (p % 2 ^ k)
  unfolding remainder bits_of
  last_bits zero r p hr hk =
      let z : p % 1 ≡ 0 = omega (arith, mod_below p 1 (omega arith)) in
      sym (ap (bit_xor r) z ∙ xor_zero_r r)
  last_bits (suc k) r p hr hk =
      let b = p / 2 ^ k % 2 in
      let hb : b < 2 = mod_below (p / 2 ^ k) 2 (omega arith) in
      let i : remainder w g (reduced w g (r * 2 + b)) (bits_of k p) ≡ bit_xor (times w g k (reduced w g (r * 2 + b))) (p % 2 ^ k) =
      last_bits k (reduced w g (r * 2 + b)) p (reduced_below w g (r * 2 + b) lg hg (omega arith)) (omega arith) in
      let n : times w g k (reduced w g (r * 2 + b)) ≡ bit_xor (reduced w g (times w g k r * 2)) (reduced w g (b * 2 ^ k)) = times-next k r b hr hb (omega arith) in
      let l : reduced w g (b * 2 ^ k) ≡ b * 2 ^ k = keeps w g (b * 2 ^ k) (digit_low b k hb hk) in
      let t = times w g (suc k) r in
      let a : bit_xor (bit_xor t (b * 2 ^ k)) (p % 2 ^ k) ≡ bit_xor t (bit_xor (b * 2 ^ k) (p % 2 ^ k)) = xor_assoc t (b * 2 ^ k) (p % 2 ^ k) in
      let x : bit_xor (b * 2 ^ k) (p % 2 ^ k) ≡ b * 2 ^ k + p % 2 ^ k = xor_shifted b k (p % 2 ^ k) (mod_below p (2 ^ k) (pow_pos k)) in
      let m : p % 2 ^ (1 + k) ≡ b * 2 ^ k + p % 2 ^ k = mod-pow-add p 1 k in
      let s : 1 + k ≡ suc k = omega arith in
      let q : p % 2 ^ (suc k) ≡ b * 2 ^ k + p % 2 ^ k = rw s at m in
      cc

  times_none : (k : ℕ) → times w g k 0 ≡ 0
  times_none zero = refl
  times_none (suc k) = ap (λ (n : ℕ). reduced w g (n * 2)) (times_none k) ∙ keeps w g 0 (pow_pos w)

  -- the covered bits, followed by any parity p
  pub followed : (bs : List ℕ) (p : ℕ) → Bits bs → p < 2 ^ w → remainder w g 0 (bs ++ bits_of w p) ≡ bit_xor (parity w g 0 bs) p
  followed bs p h hp =
      let a = remainder-append w g 0 bs (bits_of w p) in
      let l : remainder w g (remainder w g 0 bs) (bits_of w p) ≡ bit_xor (times w g w (remainder w g 0 bs)) (p % 2 ^ w) =
      last_bits w (remainder w g 0 bs) p (remainder_below 0 bs (pow_pos w) h) (omega arith) in
      let i : parity w g (times w g w 0) bs ≡ times w g w (remainder w g 0 bs) = parity_is 0 bs (pow_pos w) h in
      let z : times w g w 0 ≡ 0 = times_none w in
      let m : p % 2 ^ w ≡ p = mod-eq_of_lt hp in
      cc

  pub leaves_none : (bs : List ℕ) → Bits bs → parity w g 0 bs < 2 ^ w → remainder w g 0 (bs ++ bits_of w (parity w g 0 bs)) ≡ 0
  leaves_none bs h hp = followed bs (parity w g 0 bs) h hp ∙ xor_self (parity w g 0 bs)

  pub only_one : (bs : List ℕ) (p : ℕ) → Bits bs → p < 2 ^ w → remainder w g 0 (bs ++ bits_of w p) ≡ 0 → p ≡ parity w g 0 bs
  only_one bs p h hp e =
      let s = parity w g 0 bs in
      let f : bit_xor s p ≡ 0 = sym (followed bs p h hp) ∙ e in
      let a : bit_xor (bit_xor s s) p ≡ bit_xor s (bit_xor s p) = xor_assoc s s p in
      let z : bit_xor s s ≡ 0 = xor_self s in
      let l : bit_xor 0 p ≡ p = xor_zero_l p in
      let r : bit_xor s 0 ≡ s = xor_zero_r s in
      cc

  pub checks : (bs : List ℕ) (r : ℕ) → Bits bs → r ≡ parity w g 0 bs → r < 2 ^ w → Checks w g bs r
  checks bs r h e hr =
      let same : bit_xor r r ≡ bit_xor (parity w g 0 bs) r = ap (λ (n : ℕ). bit_xor n r) e in
      record {
        divides = followed bs r h hr ∙ sym same ∙ xor_self r;
        only = λ p hp z. only_one bs p h hp z ∙ sym e;
      }

  pub parity_below : (s : ℕ) (bs : List ℕ) → s < 2 ^ w → Bits bs → parity w g s bs < 2 ^ w
  unfolding parity
  parity_below s [] hs h = hs
  parity_below s (b ∷ bs) hs h =
      parity_below (reduced w g (bit_xor (s * 2) (b * 2 ^ w))) bs
      (reduced_below w g (bit_xor (s * 2) (b * 2 ^ w)) lg hg (xor_wide w (s * 2) (b * 2 ^ w) (omega arith) (digit_below b (2 ^ w) h.0 (pow_pos w)))) h.1

-- what other crates cite
pub payload_below : (os : List ℕ) → parity_of 10 0x633 os < 1024
unfolding parity_of
payload_below os = parity_below 10 0x633 (lit≤ tt) (lit≤ tt) (lit< tt) 0 (octet_bits os) (lit< tt) (bits-octets os)

pub header_below : (a b : ℕ) → parity_of 6 0x6f (a ∷ b ∷ []) < 64
unfolding parity_of
header_below a b = parity_below 6 0x6f (lit≤ tt) (lit≤ tt) (lit< tt) 0 (octet_bits (a ∷ b ∷ [])) (lit< tt) (bits-octets (a ∷ b ∷ []))
