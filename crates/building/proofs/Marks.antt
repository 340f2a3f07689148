-- The octets of marks, eight by eight.
-- Assumes nothing.
use Rattle.std.proofs.Common.{◌≡◌, ℕ, zero, suc, ◌+◌, ◌*◌, ◌%◌, ◌<◌, ◌≤◌, Bool, true, false, cond, List, [], ◌∷◌, ◌++◌, length, min, get_or, drop, fold, sym, refl, ap, ◌∙◌, arith}
use Rattle.std.specs.List.{range_with_len}
use Rattle.std.proofs.lemmas.List.{append-nil, append_assoc, drop-drop, length-append, get_or_append_left, nil_from_length}
use Rattle.std.proofs.Math.Seq.{drop-append_seam}
use Rattle.frames.specs.Extent.{octets_for}
use Rattle.building.specs.Rates.{mark, mark_octet, mark_octets, rate_payload}

pub length-octets : (n : ℕ) (b : List Bool) → length (mark_octets n b) ≡ n
unfolding mark_octets
length-octets zero b = refl
length-octets (suc n) b = ap suc (length-octets n (drop 8 b))

pub octet_at : (n j : ℕ) (b : List Bool) → j < n → get_or (mark_octets n b) j 0 ≡ mark_octet (drop (8 * j) b)
unfolding mark_octets
octet_at zero j b h = absurd (omega arith)
octet_at (suc n) zero b h = refl
octet_at (suc n) (suc j) b h =
    let e : 8 + 8 * j ≡ 8 * suc j = omega arith in
    octet_at n j (drop 8 b) (omega arith) ∙ ap mark_octet (drop-drop (8 * j) 8 b ∙ ap (λ (m : ℕ). drop m b) e)

pub mark-below : (b : List Bool) (k : ℕ) → mark b k < 2
mark-below b k =
    let e : (v : Bool) → cond v 1 0 < 2 = λ v. elim v as (λ w. cond w 1 0 < 2) [ true ↦ omega arith | false ↦ omega arith ] in
    e (get_or b k false)

-- each of the first eight marks is a bit
pub record Bits (b : List Bool) : Type 0 where
  pub first : mark b 0 < 2
  pub second : mark b 1 < 2
  pub third : mark b 2 < 2
  pub fourth : mark b 3 < 2
  pub fifth : mark b 4 < 2
  pub sixth : mark b 5 < 2
  pub seventh : mark b 6 < 2
  pub eighth : mark b 7 < 2

pub bits : (b : List Bool) → Bits b
bits b =
    let m = mark-below b in
    record { first = m 0; second = m 1; third = m 2; fourth = m 3; fifth = m 4; sixth = m 5; seventh = m 6; eighth = m 7 }

-- eight marks, each of them moved in at the low end
pub octet_folded : (b : List Bool) → fold (λ o k. o * 2 % 256 + mark b k) 0 (range_with_len 0 8) ≡ mark_octet b
octet_folded b =
    let below = bits b in
    omega arith

mark_front : (xs rest : List Bool) (k : ℕ) → k < length xs → mark (xs ++ rest) k ≡ mark xs k
mark_front xs rest k h = ap (λ v. cond v 1 0) (get_or_append_left xs rest false k h)

-- marks behind the first eight are in other octets
octet_front : (xs rest : List Bool) → length xs ≡ 8 → mark_octet (xs ++ rest) ≡ mark_octet xs
octet_front xs rest h =
    let m = mark_front xs rest in
    rw (m 0 (omega arith), m 1 (omega arith), m 2 (omega arith), m 3 (omega arith), m 4 (omega arith), m 5 (omega arith), m 6 (omega arith), m 7 (omega arith)) refl

octets_one : (n : ℕ) (b : List Bool) → n ≡ 1 → mark_octets n b ≡ mark_octet b ∷ []
unfolding mark_octets
octets_one zero b h = absurd (omega arith)
octets_one (suc zero) b h = refl
octets_one (suc (suc n)) b h = absurd (omega arith)

octets_next : (n m : ℕ) (b : List Bool) → n ≡ suc m → mark_octets n b ≡ mark_octet b ∷ mark_octets m (drop 8 b)
unfolding mark_octets
octets_next n m b h = ap (λ k. mark_octets k b) h

-- the octet of some eight, and then those of the marks left
octets_split : (xs rest : List Bool) → 0 < length xs → length xs ≤ 8 → (0 < length rest → length xs ≡ 8) → mark_octets (octets_for (length (xs ++ rest))) (xs ++ rest) ≡ mark_octet xs ∷ mark_octets (octets_for (length rest)) rest
octets_split xs [] l m e =
    let n = append-nil xs in
    let k : octets_for (length (xs ++ [])) ≡ 1 = ap (λ (ys : List Bool). octets_for (length ys)) n ∙ omega arith in
    octets_one (octets_for (length (xs ++ []))) (xs ++ []) k ∙ ap (λ (ys : List Bool). mark_octet ys ∷ []) n ∙ ap (λ (os : List ℕ). mark_octet xs ∷ os) (sym (nil_from_length (mark_octets 0 []) (length-octets 0 [])))
octets_split xs (r ∷ rs) l m e =
    let h : length xs ≡ 8 = e (omega arith) in
    let a = length-append xs (r ∷ rs) in
    let k : octets_for (length (xs ++ r ∷ rs)) ≡ suc (octets_for (length (r ∷ rs))) = omega arith in
    let d : drop 8 (xs ++ r ∷ rs) ≡ r ∷ rs = ap (λ j. drop j (xs ++ r ∷ rs)) (sym h) ∙ drop-append_seam xs (r ∷ rs) in
    octets_next (octets_for (length (xs ++ r ∷ rs))) (octets_for (length (r ∷ rs))) (xs ++ r ∷ rs) k
    ∙ ap (λ o. o ∷ mark_octets (octets_for (length (r ∷ rs))) (drop 8 (xs ++ r ∷ rs))) (octet_front xs (r ∷ rs) h)
    ∙ ap (λ (ys : List Bool). mark_octet xs ∷ mark_octets (octets_for (length (r ∷ rs))) ys) d

-- the octets that were written, and then those of the marks left
abbrev pub whole : (written : List ℕ) (left : List Bool) → List ℕ
whole written left = written ++ mark_octets (octets_for (length left)) left

pub marks_turn : (o : ℕ) (all xs rest : List Bool) (written new : List ℕ) → all ≡ xs ++ rest → length xs ≡ min 8 (length all) → 0 < length all → o ≡ mark_octet xs → new ≡ written ++ o ∷ [] → whole new rest ≡ whole written all
marks_turn o all xs rest written new e m l v n =
    let a = ap length e ∙ length-append xs rest in
    let s = octets_split xs rest (omega arith) (omega arith) (λ h. omega arith) in
    let t = mark_octets (octets_for (length rest)) rest in
    ap (λ (os : List ℕ). os ++ t) n
    ∙ append_assoc written (o ∷ []) t
    ∙ ap (λ k. written ++ k ∷ t) v
    ∙ ap (λ (os : List ℕ). written ++ os) (sym s)
    ∙ ap (λ (ys : List Bool). whole written ys) (sym e)

pub marks_end : (left : List Bool) (written : List ℕ) → length left ≡ 0 → whole written left ≡ written
marks_end left written h =
    let k : octets_for (length left) ≡ 0 = omega arith in
    let z = length-octets (octets_for (length left)) left in
    ap (λ (os : List ℕ). written ++ os) (nil_from_length (mark_octets (octets_for (length left)) left) (z ∙ k)) ∙ append-nil written

-- no more than the octets of 63 marks and their count
pub marks_room : (written : List ℕ) (left b : List Bool) → length b ≤ 63 → whole written left ≡ rate_payload b → length written + octets_for (length left) ≤ 9
marks_room written left b h e =
    let a = length-append written (mark_octets (octets_for (length left)) left) in
    let l = length-octets (octets_for (length left)) left in
    let m = length-octets (octets_for (length b)) b in
    let n = ap length e in
    omega arith
