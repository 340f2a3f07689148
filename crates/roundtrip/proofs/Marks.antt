-- The marks of a rate question, packed and read again.
-- Assumes nothing.
use Rattle.std.proofs.Common.{◌≡◌, ℕ, zero, suc, ◌+◌, ◌-◌, ◌*◌, ◌/◌, ◌%◌, ◌^◌, ◌<◌, ◌≤◌, Bool, true, false, cond, eqb, List, length, get_or, drop, sym, refl, ap, ◌∙◌, ⊎_elim, arith}
use Rattle.std.proofs.lemmas.List.{get_or-drop, get_or_past, ext_get_or}
use Rattle.std.proofs.lemmas.List.FromFn.{fill_by_all, get_or-map-range_with_len, length-map-range_with_len}
use Rattle.std.proofs.lemmas.Bool.{cases_lt}
use Rattle.frames.specs.Extent.{octets_for}
use Rattle.building.specs.Rates.{mark, mark_octet, mark_octets}
use Rattle.building.proofs.Marks.{bits, length-octets, octet_at}
use Rattle.payloads.specs.Payloads.{barred, marks_at}

pub mark_eqb : (b : List Bool) (k : ℕ) → eqb (mark b k) 1 ≡ get_or b k false
mark_eqb b k =
    let e : (v : Bool) → eqb (cond v 1 0) 1 ≡ v = λ v. elim v as (λ w. eqb (cond w 1 0) 1 ≡ w) [ true ↦ refl | false ↦ refl ] in
    e (get_or b k false)

-- a bit of an octet of marks
pub bit_of : (b : List Bool) (i : ℕ) → i < 8 → mark_octet b / 2 ^ (7 - i) % 2 ≡ mark b i
bit_of b zero h = let w = bits b in omega arith
bit_of b (suc zero) h = let w = bits b in omega arith
bit_of b (suc (suc zero)) h = let w = bits b in omega arith
bit_of b (suc (suc (suc zero))) h = let w = bits b in omega arith
bit_of b (suc (suc (suc (suc zero)))) h = let w = bits b in omega arith
bit_of b (suc (suc (suc (suc (suc zero))))) h = let w = bits b in omega arith
bit_of b (suc (suc (suc (suc (suc (suc zero)))))) h = let w = bits b in omega arith
bit_of b (suc (suc (suc (suc (suc (suc (suc zero))))))) h = let w = bits b in omega arith
bit_of b (suc (suc (suc (suc (suc (suc (suc (suc i)))))))) h = absurd (omega arith)

-- each mark is read as it was packed
pub mark_read : (n k : ℕ) (b : List Bool) → k < 8 * n → get_or b k false ≡ barred (mark_octets n b) k
mark_read n k b h =
    let j = k / 8 in
    let i = k % 8 in
    let hj : j < n = omega arith in
    let hi : i < 8 = omega arith in
    let w : 8 * j + i ≡ k = omega arith in
    let d = drop (8 * j) b in
    let o = octet_at n j b hj in
    let s : mark_octet d / 2 ^ (7 - i) % 2 ≡ mark d i = bit_of d i hi in
    let g : get_or d i false ≡ get_or b k false = get_or-drop (8 * j) b i false ∙ ap (λ (m : ℕ). get_or b m false) w in
    sym (ap (λ (m : ℕ). eqb (m / 2 ^ (7 - i) % 2) 1) o ∙ ap (λ (m : ℕ). eqb m 1) s ∙ mark_eqb d i ∙ g)

pub marks_read : (b : List Bool) → marks_at (length b) (mark_octets (octets_for (length b)) b) ≡ b
marks_read b =
    let n = octets_for (length b) in
    let all : (k : ℕ) → k < length b → get_or b k false ≡ barred (mark_octets n b) k = λ k h. mark_read n k b (omega arith) in
    sym (fill_by_all (barred (mark_octets n b)) b (length b) false refl all)

-- an octet is the sum of its bits
octet_sum : (o : ℕ) → o < 256 → o / 128 % 2 * 128 + o / 64 % 2 * 64 + o / 32 % 2 * 32 + o / 16 % 2 * 16 + o / 8 % 2 * 8 + o / 4 % 2 * 4 + o / 2 % 2 * 2 + o / 1 % 2 ≡ o
octet_sum o h = omega arith

bit_told : (m : ℕ) → m < 2 → cond (eqb m 1) 1 0 ≡ m
bit_told zero h = refl
bit_told (suc zero) h = refl
bit_told (suc (suc m)) h = absurd (omega arith)

-- marks that were read, packed again: below the count as read, past it none is set
mark_at : (n k : ℕ) (os : List ℕ) → ((m : ℕ) → n ≤ m → m < 8 * octets_for n → barred os m ≡ false) → k < 8 * octets_for n → get_or (marks_at n os) k false ≡ barred os k
mark_at n k os z h =
    ⊎_elim (λ l. get_or-map-range_with_len (barred os) 0 n k k false l (omega arith))
    (λ g. get_or_past (marks_at n os) k false (simp length-map-range_with_len g) ∙ sym (z k g h))
    (cases_lt k n)

mark-packed : (n j i : ℕ) (os : List ℕ) → ((m : ℕ) → n ≤ m → m < 8 * octets_for n → barred os m ≡ false) → j < octets_for n → i < 8 → mark (drop (8 * j) (marks_at n os)) i ≡ get_or os j 0 / 2 ^ (7 - i) % 2
mark-packed n j i os z hj hi =
    let k = 8 * j + i in
    let g = get_or-drop (8 * j) (marks_at n os) i false ∙ mark_at n k os z (omega arith) in
    let ej : k / 8 ≡ j = omega arith in
    let ei : k % 8 ≡ i = omega arith in
    let b : barred os k ≡ eqb (get_or os j 0 / 2 ^ (7 - i) % 2) 1 = ap (λ (m : ℕ). eqb (get_or os m 0 / 2 ^ (7 - k % 8) % 2) 1) ej ∙ ap (λ (m : ℕ). eqb (get_or os j 0 / 2 ^ (7 - m) % 2) 1) ei in
    ap (λ (v : Bool). cond v 1 0) (g ∙ b) ∙ bit_told (get_or os j 0 / 2 ^ (7 - i) % 2) (omega arith)

octet_packed : (n j : ℕ) (os : List ℕ) → ((k : ℕ) → get_or os k 0 < 256) → ((m : ℕ) → n ≤ m → m < 8 * octets_for n → barred os m ≡ false) → j < octets_for n → mark_octet (drop (8 * j) (marks_at n os)) ≡ get_or os j 0
octet_packed n j os by z h =
    let s = octet_sum (get_or os j 0) (by j) in
    let m0 = mark-packed n j 0 os z h (omega arith) in
    let m1 = mark-packed n j 1 os z h (omega arith) in
    let m2 = mark-packed n j 2 os z h (omega arith) in
    let m3 = mark-packed n j 3 os z h (omega arith) in
    let m4 = mark-packed n j 4 os z h (omega arith) in
    let m5 = mark-packed n j 5 os z h (omega arith) in
    let m6 = mark-packed n j 6 os z h (omega arith) in
    let m7 = mark-packed n j 7 os z h (omega arith) in
    simp (m0, m1, m2, m3, m4, m5, m6, m7) s

pub marks-packed : (n : ℕ) (os : List ℕ) → ((k : ℕ) → get_or os k 0 < 256) → ((m : ℕ) → n ≤ m → m < 8 * octets_for n → barred os m ≡ false) → length os ≡ octets_for n → mark_octets (octets_for n) (marks_at n os) ≡ os
marks-packed n os by z l =
    let t = octets_for n in
    let e = length-octets t (marks_at n os) in
    ext_get_or 0 (mark_octets t (marks_at n os)) os (e ∙ sym l)
    (λ j h. let hj : j < t = omega arith in octet_at t j (marks_at n os) hj ∙ octet_packed n j os by z hj)
