-- The octets that the rows of a payload take, and that they are there.
-- Assumes nothing.
use Rattle.std.proofs.Common.{◌≡◌, ℕ, zero, suc, ◌+◌, ◌/◌, ◌<◌, ◌≤◌, true, false, ltb, List, [], ◌∷◌, length, get_or, drop, Some, None, Option, refl, ap, ⊎_elim, arith}
use Rattle.std.proofs.lemmas.Bool.{cases_Bool, ltb-false}
use Rattle.std.proofs.lemmas.List.{length-drop}
use Rattle.std.proofs.lemmas.Nat.{mod_below}
use Rattle.link_reading.specs.declared.fields.Extent.{Extent}
use Rattle.link_reading.specs.declared.fields.Fields.{Fields}
use Rattle.link_reading.proofs.Codings.{onward_inv, rows_coded, rows_are}
use Rattle.link_reading.specs.Layout.{is_last, is_wide, width, onward, extent, coded, rows_in, subflows_of, timed_of, ipti_octets, ending, fields_of}

pub record Sized (n : ℕ) (os : List ℕ) (e : Extent) : Type 0 where
  pub some : 1 ≤ e.count
  pub within : e.octets ≤ length os

sized_more : (n o : ℕ) (os : List ℕ) (y e : Extent) → e ≡ record { count = 1 + y.count; octets = 1 + width n (is_wide o) + y.octets } → width n (is_wide o) ≤ length os
    → Sized n (drop (width n (is_wide o)) os) y → Sized n (o ∷ os) e
sized_more n o os y e q l r =
    let w = width n (is_wide o) in
    let d = length-drop w os in
    rw q (record { some = omega arith; within = omega (arith, r.within) })

pub sized : (f n : ℕ) (os : List ℕ) (e : Extent) → extent f n os ≡ Some e → Sized n os e
unfolding extent
sized zero n os e h = let z : ◌≡◌ {A = ℕ} 0 1 = cc in absurd (omega arith)
sized (suc f) n [] e h = let z : ◌≡◌ {A = ℕ} 0 1 = cc in absurd (omega arith)
sized (suc f) n (o ∷ os) e h =
    let w = width n (is_wide o) in
    ⊎_elim
    (λ (s : ltb (length os) w ≡ true). let k = rw s at h in let z : ◌≡◌ {A = ℕ} 0 1 = cc in absurd (omega arith))
    (λ (s : ltb (length os) w ≡ false).
    let l = ltb-false (length os) w s in
    ⊎_elim
    (λ (i : is_last o ≡ true).
    let k : Some (record { count = 1; octets = 1 + w }) ≡ Some e = rw (s, i) at h in
    let q : record { count = 1; octets = 1 + w } ≡ e = cc in
    rw (← q) (record { some = omega arith; within = omega arith }))
    (λ (i : is_last o ≡ false).
    let k : onward 1 (1 + w) (extent f n (drop w os)) ≡ Some e = rw (s, i) at h in
    let v = onward_inv 1 (1 + w) (extent f n (drop w os)) e k in
    sized_more n o os v.0 e v.2 l (sized f n (drop w os) v.0 v.1))
    (cases_Bool (is_last o)))
    (cases_Bool (ltb (length os) w))

-- what stands in a payload whose fields were read
pub record Roomy (os : List ℕ) (f : Fields) : Type 0 where
  pub some : 1 ≤ f.count
  pub few : f.subflows ≤ 7
  pub rows : (hs : List ℕ) → rows_coded f.subflows (coded (length (drop 1 os)) f.subflows (drop 1 os)) hs ≡ rows_in f.count f.subflows (drop 1 os) hs
  pub iptis : f.place + ipti_octets f.timed f.count + 3 ≤ length os

ending_inv : (o : ℕ) (os : List ℕ) (x : Option Extent) (f : Fields) → ending o os x ≡ Some f
    → (e : Extent) × (x ≡ Some e) × (f.count ≡ e.count) × (f.place ≡ 1 + e.octets) × (f.subflows ≡ subflows_of o) × (f.timed ≡ timed_of o) × (ipti_octets (timed_of o) e.count + 3 ≤ length (drop e.octets os))
unfolding ending
ending_inv o os None f h = let z : ◌≡◌ {A = ℕ} 0 1 = cc in absurd (omega arith)
ending_inv o os (Some e) f h =
    let m = ipti_octets (timed_of o) e.count in
    let t = drop e.octets os in
    ⊎_elim
    (λ (s : ltb (length t) (m + 3) ≡ true). let k = rw s at h in let z : ◌≡◌ {A = ℕ} 0 1 = cc in absurd (omega arith))
    (λ (s : ltb (length t) (m + 3) ≡ false).
    let l = ltb-false (length t) (m + 3) s in
    let k = rw s at h in
    (e, refl, cc, cc, cc, cc, l))
    (cases_Bool (ltb (length t) (m + 3)))

roomy_from : (o : ℕ) (os : List ℕ) (e : Extent) (f : Fields) → extent (length os) (subflows_of o) os ≡ Some e → f.count ≡ e.count → f.place ≡ 1 + e.octets → f.subflows ≡ subflows_of o → f.timed ≡ timed_of o
    → ipti_octets (timed_of o) e.count + 3 ≤ length (drop e.octets os) → Roomy (o ∷ os) f
roomy_from o os e f x a b d t l =
    let s = sized (length os) (subflows_of o) os e x in
    let r : (hs : List ℕ) → rows_coded f.subflows (coded (length os) f.subflows os) hs ≡ rows_in f.count f.subflows os hs = λ hs. rw (a, d) (rows_are (length os) (subflows_of o) os hs e x) in
    let i : ipti_octets f.timed f.count ≡ ipti_octets (timed_of o) e.count = rw (a, t) in
    let y = length-drop e.octets os in
    let q : subflows_of o < 8 = mod_below (o / 2) 8 (omega arith) in
    record { some = omega (arith, s.some); few = omega arith; rows = r; iptis = omega (arith, s.within) }

pub roomy : (os : List ℕ) (f : Fields) → fields_of os ≡ Some f → Roomy os f
unfolding fields_of
roomy [] f h = let z : ◌≡◌ {A = ℕ} 0 1 = cc in absurd (omega arith)
roomy (o ∷ os) f h =
    let n = subflows_of o in
    let v = ending_inv o os (extent (length os) n os) f h in
    roomy_from o os v.0 f v.1 v.2 v.3 v.4 v.5 v.6

-- what of it its reader asks
pub first_within : (os : List ℕ) (f : Fields) → fields_of os ≡ Some f → 1 ≤ length os
first_within os f h = let r = roomy os f h in omega (arith, r.iptis)

pub few_within : (os : List ℕ) (f : Fields) → fields_of os ≡ Some f → f.subflows ≤ 7
few_within os f h = (roomy os f h).few

pub place_within : (os : List ℕ) (f : Fields) → fields_of os ≡ Some f → f.place ≤ length os
place_within os f h = let r = roomy os f h in omega (arith, r.iptis)

pub rows_within : (os : List ℕ) (f : Fields) (hs : List ℕ) → fields_of os ≡ Some f → rows_coded f.subflows (coded (length (drop 1 os)) f.subflows (drop 1 os)) hs ≡ rows_in f.count f.subflows (drop 1 os) hs
rows_within os f hs h = (roomy os f h).rows hs

pub rows_in-length : (c n : ℕ) (os hs : List ℕ) → length (rows_in c n os hs) ≡ c
unfolding rows_in
rows_in-length zero n os hs = refl
rows_in-length (suc c) n os hs = ap suc (rows_in-length c n (drop (1 + width n (is_wide (get_or os 0 0))) os) (drop 1 hs))
