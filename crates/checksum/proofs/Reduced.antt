-- The laws of `reduced`: it is below 2 ^ w, and linear.
-- Assumes nothing.
use Rattle.std.proofs.Common.{◌≡◌, ℕ, zero, suc, ◌+◌, ◌*◌, ◌/◌, ◌%◌, ◌^◌, ◌<◌, ◌≤◌, ltb, ap, ◌∙◌, inl, inr, arith}
use lib.Bits.{bit_xor}
use Rattle.std.proofs.lemmas.Nat.{pow_pos, pow-add, xor_lt, xor_shr, div_below, le-div, shr_split, mod_below, shl_whole}
use Rattle.std.proofs.lemmas.Bool.{cases_lt, lt-ltb, le-ltb, cond-true, cond-false}
use Rattle.checksum.specs.Division.{reduced}

-- a number below 2 * 2 ^ w, by its top bit
pub top_one : (w x : ℕ) → x < 2 * 2 ^ w → 2 ^ w ≤ x → x / 2 ^ w ≡ 1
top_one w x h l = omega (arith, div_below x (2 ^ w) 2 (pow_pos w) h, le-div 1 x (2 ^ w) (pow_pos w) (omega arith))

pub top_none : (w x : ℕ) → x < 2 ^ w → x / 2 ^ w ≡ 0
top_none w x h = omega (arith, div_below x (2 ^ w) 1 (pow_pos w) (omega arith))

pub low : (w x : ℕ) → x / 2 ^ w ≡ 0 → x < 2 ^ w
low w x e =
    let s : x / 2 ^ w * 2 ^ w + x % 2 ^ w ≡ x = shr_split x w in
    let m : x % 2 ^ w < 2 ^ w = mod_below x (2 ^ w) (pow_pos w) in
    let t : 0 * 2 ^ w + x % 2 ^ w ≡ x = rw e at s in
    omega arith

pub not_low : (w x : ℕ) → x / 2 ^ w ≡ 1 → 2 ^ w ≤ x
not_low w x e =
    let s : x / 2 ^ w * 2 ^ w + x % 2 ^ w ≡ x = shr_split x w in
    let t : 1 * 2 ^ w + x % 2 ^ w ≡ x = rw e at s in
    omega arith

pub keeps : (w g x : ℕ) → x < 2 ^ w → reduced w g x ≡ x
unfolding reduced
keeps w g x h = cond-true (ltb x (2 ^ w)) x (bit_xor x g) (lt-ltb x (2 ^ w) h)

pub takes : (w g x : ℕ) → 2 ^ w ≤ x → reduced w g x ≡ bit_xor x g
unfolding reduced
takes w g x h = cond-false (ltb x (2 ^ w)) x (bit_xor x g) (le-ltb x (2 ^ w) h)

-- two numbers with the top bit, added
pub xor_low : (w x y : ℕ) → x < 2 * 2 ^ w → 2 ^ w ≤ x → y < 2 * 2 ^ w → 2 ^ w ≤ y → bit_xor x y < 2 ^ w
xor_low w x y hx lx hy ly =
    low w (bit_xor x y) (xor_shr x y w ∙ ap (λ (n : ℕ). bit_xor n (y / 2 ^ w)) (top_one w x hx lx) ∙ ap (bit_xor 1) (top_one w y hy ly))

pub xor_high : (w x y : ℕ) → x < 2 ^ w → y < 2 * 2 ^ w → 2 ^ w ≤ y → 2 ^ w ≤ bit_xor x y
xor_high w x y hx hy ly =
    not_low w (bit_xor x y) (xor_shr x y w ∙ ap (λ (n : ℕ). bit_xor n (y / 2 ^ w)) (top_none w x hx) ∙ ap (bit_xor 0) (top_one w y hy ly))

pub xor_wide : (w x y : ℕ) → x < 2 * 2 ^ w → y < 2 * 2 ^ w → bit_xor x y < 2 * 2 ^ w
xor_wide w x y hx hy =
    let e : 2 ^ (1 + w) ≡ 2 * 2 ^ w = pow-add 2 1 w in
    rw e at (xor_lt (1 + w) x y (omega arith) (omega arith))

pub reduced_below : (w g x : ℕ) → 2 ^ w ≤ g → g < 2 * 2 ^ w → x < 2 * 2 ^ w → reduced w g x < 2 ^ w
reduced_below w g x lg hg hx =
    elim (cases_lt x (2 ^ w)) [
      | inl h ↦ rw (keeps w g x h) h
      | inr l ↦ rw (takes w g x l) (xor_low w x g hx l hg lg)
    ]

pub digit_below : (b p : ℕ) → b < 2 → 0 < p → b * p < 2 * p
digit_below zero p h l = omega arith
digit_below (suc zero) p h l = omega arith
digit_below (suc (suc b)) p h l = absurd (omega arith)

-- what `sum << 1`, `bit << width` and `1 << width` are at 16 bits
module _ (w : ℕ) (small : w ≤ 10) where
  pub doubled : (s : ℕ) → s < 2 ^ w → s * 2 % 65536 ≡ s * 2
  doubled s h = shl_whole s w 1 16 h (omega arith)

  pub raised : (b : ℕ) → b < 2 → b * 2 ^ w % 65536 ≡ b * 2 ^ w
  raised b h = shl_whole b 1 w 16 h (omega arith)

  pub next-wide : (s b : ℕ) → s < 2 ^ w → b < 2 → bit_xor (s * 2) (b * 2 ^ w) < 2 * 2 ^ w
  next-wide s b hs hb = xor_wide w (s * 2) (b * 2 ^ w) (omega arith) (digit_below b (2 ^ w) hb (pow_pos w))
