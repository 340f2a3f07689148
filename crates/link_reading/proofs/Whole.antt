-- The fields of a payload, by its parts.
-- Assumes nothing.
use Rattle.std.proofs.Common.{◌≡◌, ℕ, ◌+◌, ◌-◌, ◌*◌, ◌/◌, ◌<◌, ◌≤◌, Bool, true, false, ltb, List, [], ◌∷◌, length, get_or, take, drop, Some, None, sym, refl, ap, ◌∙◌, add-zero, arith}
use Rattle.std.proofs.lemmas.List.{length-drop, get_or-drop}
use Rattle.std.proofs.lemmas.Bool.{lt-ltb, le-ltb}
use Rattle.link_reading.specs.declared.fields.Extent.{Extent}
use Rattle.link_reading.specs.Layout.{extent, subflows_of, timed_of, chain_of, ipti_octets, ending, fields_of}

pub fields_none : (os : List ℕ) → length os < 1 → fields_of os ≡ None
unfolding fields_of
fields_none [] h = refl
fields_none (o ∷ os) h = absurd (omega arith)

-- the octets behind the first one, and what the first one says
pub record Front (os r : List ℕ) (n : ℕ) (ti : Bool) : Type 0 where
  pub some : 0 < length os
  pub rest : r ≡ drop 1 os
  pub subflows : n ≡ subflows_of (get_or os 0 0)
  pub timed : ti ≡ timed_of (get_or os 0 0)

pub fields_lost : (os r : List ℕ) (n : ℕ) (ti : Bool) → Front os r n ti → extent (length r) n r ≡ None → fields_of os ≡ None
unfolding fields_of ending
fields_lost [] r n ti f ex = absurd (omega (arith, f.some))
fields_lost (o ∷ os) r n ti f ex =
    let x : extent (length os) (subflows_of o) os ≡ None = rw (f.rest, f.subflows) at ex in
    ap (ending o os) x

pub fields_short : (os r t : List ℕ) (n : ℕ) (ti : Bool) (m : ℕ) (e : Extent) → Front os r n ti → t ≡ drop e.octets r → extent (length r) n r ≡ Some e → m ≡ ipti_octets ti e.count → length t < m + 3 → fields_of os ≡ None
unfolding fields_of ending
fields_short [] r t n ti m e f et ex em l = absurd (omega (arith, f.some))
fields_short (o ∷ os) r t n ti m e f et ex em l =
    let x : extent (length os) (subflows_of o) os ≡ Some e = rw (f.rest, f.subflows) at ex in
    let d : drop e.octets os ≡ t = sym (et ∙ ap (drop e.octets) f.rest) in
    let k : ipti_octets (timed_of o) e.count ≡ m = sym (em ∙ ap (λ b. ipti_octets b e.count) f.timed) in
    let q : ltb (length t) (m + 3) ≡ true = lt-ltb (length t) (m + 3) l in
    ap (ending o os) x ∙ rw (k, d, q)

pub fields_full : (os r t : List ℕ) (n : ℕ) (ti ch : Bool) (m : ℕ) (e : Extent) (g : List ℕ) → Front os r n ti → t ≡ drop e.octets r → ch ≡ chain_of (get_or os 0 0)
    → extent (length r) n r ≡ Some e → m ≡ ipti_octets ti e.count → g ≡ drop m t → 3 ≤ length g
    → fields_of os ≡ Some (record { subflows = n; timed = ti; chain = ch; count = e.count; place = 1 + e.octets; versions = get_or g 0 0 * 256 + get_or g 1 0; kind = get_or g 2 0 / 16; over = length (drop 3 g) })
unfolding fields_of ending
fields_full [] r t n ti ch m e g f et ec ex em eg l = absurd (omega (arith, f.some))
fields_full (o ∷ os) r t n ti ch m e g f et ec ex em eg l =
    let x : extent (length os) (subflows_of o) os ≡ Some e = rw (f.rest, f.subflows) at ex in
    let d : drop e.octets os ≡ t = sym (et ∙ ap (drop e.octets) f.rest) in
    let k : ipti_octets (timed_of o) e.count ≡ m = sym (em ∙ ap (λ b. ipti_octets b e.count) f.timed) in
    let lg : length g ≡ length t - m = ap length eg ∙ length-drop m t in
    let q : ltb (length t) (m + 3) ≡ false = le-ltb (length t) (m + 3) (omega arith) in
    let a : get_or g 0 0 ≡ get_or t m 0 = ap (λ xs. get_or xs 0 0) eg ∙ get_or-drop m t 0 0 ∙ ap (λ j. get_or t j 0) (add-zero m) in
    let b : get_or g 1 0 ≡ get_or t (m + 1) 0 = ap (λ xs. get_or xs 1 0) eg ∙ get_or-drop m t 1 0 in
    let c : get_or g 2 0 ≡ get_or t (m + 2) 0 = ap (λ xs. get_or xs 2 0) eg ∙ get_or-drop m t 2 0 in
    let v : length (drop 3 g) ≡ length t - (m + 3) = length-drop 3 g ∙ omega arith in
    ap (ending o os) x ∙ rw (k, d, q, f.subflows, f.timed, ec, a, b, c, v)

-- the first three octets, which are two of versions and the data PDU type
pub chunk_at : (g ch : List ℕ) → ch ≡ take 3 g → (get_or ch 0 0 ≡ get_or g 0 0) × (get_or ch 1 0 ≡ get_or g 1 0) × (get_or ch 2 0 ≡ get_or g 2 0)
chunk_at [] ch e = rw e (refl, refl, refl)
chunk_at (a ∷ []) ch e = rw e (refl, refl, refl)
chunk_at (a ∷ (b ∷ [])) ch e = rw e (refl, refl, refl)
chunk_at (a ∷ (b ∷ (c ∷ g))) ch e = rw e (refl, refl, refl)
