-- The combinations that octets begin with, one by one: how far they go, and what rows they are.
-- Assumes nothing.
use Rattle.std.proofs.Common.{◌≡◌, ℕ, zero, suc, ◌+◌, ◌*◌, ◌%◌, ◌<◌, ◌≤◌, Bool, true, false, cond, ltb, List, [], ◌∷◌, length, get_or, take, drop, Some, None, Option, sym, refl, ap, ◌∙◌, ⊎_elim, one-add, arith}
use Rattle.std.proofs.lemmas.Bool.{cases_Bool, lt-ltb, le-ltb, ltb-false}
use Rattle.std.proofs.lemmas.List.{length-drop, length-take-le}
use Rattle.std.specs.Option.{unwrap_or}
use Rattle.std.specs.Iterator.{YieldsFirst}
use Rattle.sets.specs.Rows.{Row, entered}
use Rattle.link_reading.specs.declared.fields.Extent.{Extent}
use Rattle.link_reading.specs.Layout.{Coding, is_last, is_wide, width, onward, extent, coded, sizes_in, rows_in}

-- as many steps as octets are enough, and more do no more
pub coded_enough : (f g n : ℕ) (os : List ℕ) → length os ≤ f → length os ≤ g → coded f n os ≡ coded g n os
unfolding coded
coded_enough zero zero n os a b = refl
coded_enough zero (suc g) n [] a b = refl
coded_enough zero (suc g) n (o ∷ os) a b = absurd (omega arith)
coded_enough (suc f) zero n [] a b = refl
coded_enough (suc f) zero n (o ∷ os) a b = absurd (omega arith)
coded_enough (suc f) (suc g) n [] a b = refl
coded_enough (suc f) (suc g) n (o ∷ os) a b =
    let w = width n (is_wide o) in
    let l = length-drop w os in
    let i = coded_enough f g n (drop w os) (omega arith) (omega arith) in
    ap (λ cs. cond (ltb (length os) w) [] (record { head = o; sizes = take w os } ∷ cond (is_last o) [] cs)) i

pub coded_none : (n : ℕ) (os : List ℕ) → length os ≡ 0 → coded (length os) n os ≡ []
unfolding coded
coded_none n [] h = refl
coded_none n (o ∷ os) h = absurd (omega arith)

first_rest : (os after : List ℕ) (o : ℕ) → 0 < length os → o ≡ get_or os 0 0 → after ≡ drop 1 os → os ≡ o ∷ after
first_rest [] after o h e d = absurd (omega arith)
first_rest (x ∷ os) after o h e d = cc

-- the first of them, by its octets
pub coded_short : (n o w : ℕ) (os after : List ℕ) → 0 < length os → o ≡ get_or os 0 0 → after ≡ drop 1 os → w ≡ width n (is_wide o) → length after < w → coded (length os) n os ≡ []
unfolding coded
coded_short n o w os after h f d v s =
    let t : ltb (length after) (width n (is_wide o)) ≡ true = lt-ltb _ _ (omega arith) in
    ap (λ xs. coded (length xs) n xs) (first_rest os after o h f d) ∙ rw t

-- what is left behind the one with these octets in front
abbrev pub behind : ℕ → ℕ → List ℕ → List Coding
behind n o rest = cond (is_last o) [] (coded (length rest) n rest)

pub coded_first : (n o w : ℕ) (os after : List ℕ) → 0 < length os → o ≡ get_or os 0 0 → after ≡ drop 1 os → w ≡ width n (is_wide o) → w ≤ length after
    → coded (length os) n os ≡ record { head = o; sizes = take w after } ∷ behind n o (drop w after)
unfolding coded
coded_first n o w os after h f d v s =
    let t : ltb (length after) (width n (is_wide o)) ≡ false = le-ltb _ _ (omega arith) in
    let l = length-drop w after in
    let i = coded_enough (length after) (length (drop w after)) n (drop w after) (omega arith) (omega arith) in
    ap (λ xs. coded (length xs) n xs) (first_rest os after o h f d) ∙ rw (t, ← v) (ap (λ cs. record { head = o; sizes = take w after } ∷ cond (is_last o) [] cs) i)

-- their extent, and the octets of all
abbrev pub extent_of : List Coding → Option Extent
extent_of [] = None
extent_of (c ∷ cs) = cond (is_last c.head) (Some (record { count = 1; octets = 1 + length c.sizes })) (onward 1 (1 + length c.sizes) (extent_of cs))

abbrev pub spread : List Coding → ℕ
spread [] = 0
spread (c ∷ cs) = 1 + length c.sizes + spread cs

-- each has the octets of n sizes
abbrev pub Fitting : ℕ → List Coding → Type 0
Fitting n [] = Unit {0}
Fitting n (c ∷ cs) = (length c.sizes ≡ width n (is_wide c.head)) × Fitting n cs

pub extent_coded : (f n : ℕ) (os : List ℕ) → extent_of (coded f n os) ≡ extent f n os
unfolding coded extent
extent_coded zero n os = refl
extent_coded (suc f) n [] = refl
extent_coded (suc f) n (o ∷ os) =
    let w = width n (is_wide o) in
    ⊎_elim
    (λ (s : ltb (length os) w ≡ true). rw s)
    (λ (s : ltb (length os) w ≡ false).
    let l = ltb-false (length os) w s in
    let k : length (take w os) ≡ w = length-take-le w os (omega arith) in
    ⊎_elim
    (λ (i : is_last o ≡ true). rw (s, i, k))
    (λ (i : is_last o ≡ false). rw (s, i, k) (ap (onward 1 (1 + w)) (extent_coded f n (drop w os))))
    (cases_Bool (is_last o)))
    (cases_Bool (ltb (length os) w))

pub spread_coded : (f n : ℕ) (os : List ℕ) → spread (coded f n os) ≤ length os
unfolding coded
spread_coded zero n os = omega arith
spread_coded (suc f) n [] = omega arith
spread_coded (suc f) n (o ∷ os) =
    let w = width n (is_wide o) in
    ⊎_elim
    (λ (s : ltb (length os) w ≡ true). rw s (omega arith))
    (λ (s : ltb (length os) w ≡ false).
    let l = ltb-false (length os) w s in
    let k : length (take w os) ≡ w = length-take-le w os (omega arith) in
    let d = length-drop w os in
    let i = spread_coded f n (drop w os) in
    ⊎_elim
    (λ (i : is_last o ≡ true). rw (s, i, k) (omega arith))
    (λ (j : is_last o ≡ false). rw (s, j, k) (omega arith))
    (cases_Bool (is_last o)))
    (cases_Bool (ltb (length os) w))

pub fitting_coded : (f n : ℕ) (os : List ℕ) → Fitting n (coded f n os)
unfolding coded
fitting_coded zero n os = tt
fitting_coded (suc f) n [] = tt
fitting_coded (suc f) n (o ∷ os) =
    let w = width n (is_wide o) in
    ⊎_elim
    (λ (s : ltb (length os) w ≡ true). rw s tt)
    (λ (s : ltb (length os) w ≡ false).
    let l = ltb-false (length os) w s in
    let k : length (take w os) ≡ w = length-take-le w os (omega arith) in
    ⊎_elim
    (λ (i : is_last o ≡ true). rw (s, i) (k, tt))
    (λ (i : is_last o ≡ false). rw (s, i) (k, fitting_coded f n (drop w os)))
    (cases_Bool (is_last o)))
    (cases_Bool (ltb (length os) w))

-- a turn of the loop that counts them
pub onward_zero : (x : Option Extent) → onward 0 0 x ≡ x
onward_zero None = refl
onward_zero (Some e) =
    let p : 0 + e.count ≡ e.count = omega arith in
    let q : 0 + e.octets ≡ e.octets = omega arith in
    rw (p, q)

onward_twice : (c k j : ℕ) (e : Option Extent) → onward c k (onward 1 j e) ≡ onward (c + 1) (k + j) e
onward_twice c k j None = refl
onward_twice c k j (Some e) =
    let p : c + (1 + e.count) ≡ c + 1 + e.count = omega arith in
    let q : k + (j + e.octets) ≡ k + j + e.octets = omega arith in
    rw (p, q)

pub counted_last : (c k : ℕ) (x : Coding) (xs left : List Coding) (was : Option Extent) → onward c k (extent_of left) ≡ was → left ≡ x ∷ xs → is_last x.head ≡ true
    → Some (record { count = c + 1; octets = k + (1 + length x.sizes) }) ≡ was
counted_last c k x xs left was h e l =
    let t : extent_of (x ∷ xs) ≡ Some (record { count = 1; octets = 1 + length x.sizes }) = rw l in
    sym (ap (onward c k) (ap extent_of e ∙ t)) ∙ h

pub counted_more : (c k : ℕ) (x : Coding) (xs left : List Coding) (was : Option Extent) → onward c k (extent_of left) ≡ was → left ≡ x ∷ xs → is_last x.head ≡ false
    → onward (c + 1) (k + (1 + length x.sizes)) (extent_of xs) ≡ was
counted_more c k x xs left was h e l =
    let t : extent_of (x ∷ xs) ≡ onward 1 (1 + length x.sizes) (extent_of xs) = rw l in
    sym (onward_twice c k (1 + length x.sizes) (extent_of xs)) ∙ sym (ap (onward c k) (ap extent_of e ∙ t)) ∙ h

-- the rows that they are
abbrev pub rows_coded : ℕ → List Coding → List ℕ → List Row
rows_coded n [] hs = []
rows_coded n (c ∷ cs) hs = entered (c.head % 64) (get_or hs 0 0) (sizes_in (is_wide c.head) n c.sizes) ∷ rows_coded n cs (drop 1 hs)

-- the half octet for the next of them, or 0
pub next_half : (hs later : List ℕ) (r : Option ℕ) → YieldsFirst (λ (xs : List ℕ). xs) hs r later → (unwrap_or r 0 ≡ get_or hs 0 0) × (later ≡ drop 1 hs)
next_half hs later None h = rw (h.0, h.1) (refl, refl)
next_half hs later (Some x) h = rw h (refl, refl)

pub rows_next : (n head p : ℕ) (wide : Bool) (sizes ss hs later : List ℕ) (left cs : List Coding) → left ≡ record { head = head; sizes = sizes } ∷ cs → wide ≡ is_wide head → ss ≡ sizes_in wide n sizes → p ≡ get_or hs 0 0 → later ≡ drop 1 hs
    → rows_coded n left hs ≡ entered (head % 64) p ss ∷ rows_coded n cs later
rows_next n head p wide sizes ss hs later left cs e v s h d = ap (λ xs. rows_coded n xs hs) e ∙ rw (s, v, h, d)

sizes_front : (w : Bool) (n k : ℕ) (os : List ℕ) → k ≡ width n w → k ≤ length os → sizes_in w n (take k os) ≡ sizes_in w n os
unfolding sizes_in
sizes_front w zero k os e l = refl
sizes_front true (suc n) zero os e l = absurd (omega arith)
sizes_front true (suc n) (suc zero) os e l = absurd (omega arith)
sizes_front true (suc n) (suc (suc k)) [] e l = absurd (omega arith)
sizes_front true (suc n) (suc (suc k)) (a ∷ []) e l = absurd (omega arith)
sizes_front true (suc n) (suc (suc k)) (a ∷ (b ∷ os)) e l = ap (λ xs. (a * 256 + b) ∷ xs) (sizes_front true n k os (omega arith) (omega arith))
sizes_front false (suc n) zero os e l = absurd (omega arith)
sizes_front false (suc n) (suc k) [] e l = absurd (omega arith)
sizes_front false (suc n) (suc k) (a ∷ os) e l = ap (λ xs. a ∷ xs) (sizes_front false n k os (omega arith) (omega arith))

row_more : (k c n o : ℕ) (os hs : List ℕ) → k ≡ suc c → width n (is_wide o) ≤ length os
    → rows_in k n (o ∷ os) hs ≡ entered (o % 64) (get_or hs 0 0) (sizes_in (is_wide o) n (take (width n (is_wide o)) os)) ∷ rows_in c n (drop (width n (is_wide o)) os) (drop 1 hs)
unfolding rows_in
row_more k c n o os hs e l =
    let w = width n (is_wide o) in
    let s = sizes_front (is_wide o) n w os refl l in
    let d : drop (1 + w) (o ∷ os) ≡ drop w os = ap (λ j. drop j (o ∷ os)) (one-add w) in
    rw (e, s, d)

rows_none : (n : ℕ) (os hs : List ℕ) → rows_in 0 n os hs ≡ []
unfolding rows_in
rows_none n os hs = refl

pub onward_inv : (c k : ℕ) (x : Option Extent) (e : Extent) → onward c k x ≡ Some e → (y : Extent) × (x ≡ Some y) × (e ≡ record { count = c + y.count; octets = k + y.octets })
onward_inv c k None e h = let z : ◌≡◌ {A = ℕ} 0 1 = cc in absurd (omega arith)
onward_inv c k (Some y) e h = (y, refl, cc)

pub rows_are : (f n : ℕ) (os hs : List ℕ) (e : Extent) → extent f n os ≡ Some e → rows_coded n (coded f n os) hs ≡ rows_in e.count n os hs
unfolding coded extent
rows_are zero n os hs e h = cc
rows_are (suc f) n [] hs e h = cc
rows_are (suc f) n (o ∷ os) hs e h =
    let w = width n (is_wide o) in
    let r = entered (o % 64) (get_or hs 0 0) (sizes_in (is_wide o) n (take w os)) in
    ⊎_elim
    (λ (s : ltb (length os) w ≡ true). let k : None ≡ Some e = rw s at h in cc)
    (λ (s : ltb (length os) w ≡ false).
    let l = ltb-false (length os) w s in
    ⊎_elim
    (λ (i : is_last o ≡ true).
    let k : Some (record { count = 1; octets = 1 + w }) ≡ Some e = rw (s, i) at h in
    let q : 1 ≡ e.count = ap (λ (x : Option Extent). elim x [ None ↦ 0 | Some y ↦ y.count ]) k in
    let m = row_more e.count 0 n o os hs (sym q) l in
    rw (s, i) (sym (m ∙ ap (λ rs. r ∷ rs) (rows_none n (drop w os) (drop 1 hs)))))
    (λ (i : is_last o ≡ false).
    let k : onward 1 (1 + w) (extent f n (drop w os)) ≡ Some e = rw (s, i) at h in
    let v = onward_inv 1 (1 + w) (extent f n (drop w os)) e k in
    let q : e.count ≡ suc v.0.count = ap (λ (x : Extent). x.count) v.2 ∙ one-add v.0.count in
    let m = row_more e.count v.0.count n o os hs q l in
    rw (s, i) (ap (λ rs. r ∷ rs) (rows_are f n (drop w os) (drop 1 hs) v.0 v.1) ∙ sym m))
    (cases_Bool (is_last o)))
    (cases_Bool (ltb (length os) w))
