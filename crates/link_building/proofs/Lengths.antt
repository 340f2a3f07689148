-- How many octets are written: the payload of a part of a set is no longer than there is room for.
-- Assumes nothing.
use Rattle.std.proofs.Common.{◌≡◌, ℕ, ◌+◌, ◌*◌, ◌/◌, ◌<◌, ◌≤◌, Bool, true, false, ◌&&◌, eqb, List, [], ◌∷◌, ◌++◌, length, get_or, drop, refl, ap, sym, ◌∙◌, arith}
use Rattle.std.proofs.lemmas.List.{length-append, length-drop, at_drop_more}
use Rattle.std.proofs.lemmas.Bool.{and_parts}
use Rattle.std.proofs.lemmas.Bool.Decides.{nat_tests}
use Rattle.sets.specs.Rows.{Row, fresh, fits, sound}
use Rattle.sets.proofs.Fitting.{fit}
use Rattle.link_building.specs.Wire.{wide, size_octets, sizes_octets, combination, combinations, nibbles}

sizes_short : (w : Bool) (ss : List ℕ) → length (sizes_octets w ss) ≤ 2 * length ss
unfolding sizes_octets size_octets
sizes_short w [] = omega arith
sizes_short true (s ∷ ss) = let i = sizes_short true ss in omega arith
sizes_short false (s ∷ ss) = let i = sizes_short false ss in omega arith

pub length-combination : (last : Bool) (rfci : ℕ) (ss : List ℕ) → length (combination last rfci ss) ≡ 1 + length (sizes_octets (wide ss) ss)
unfolding combination
length-combination last rfci ss = omega arith

pub combinations_short : (n : ℕ) (ti : Bool) (rs : List Row) → n ≤ 7 → sound n ti rs ≡ true → length (combinations rs) ≤ 15 * length rs
unfolding combinations sound
combinations_short n ti [] h s = omega arith
combinations_short n ti (r ∷ rs) h s =
    let p = and_parts (fits n ti r) (fresh r.rfci rs && sound n ti rs) s in
    let f = (fit n ti r p.0).count in
    let i = combinations_short n ti rs h (and_parts (fresh r.rfci rs) (sound n ti rs) p.1).1 in
    let c = length-combination (eqb (length rs) 0) r.rfci r.sizes in
    let z = sizes_short (wide r.sizes) r.sizes in
    let a = length-append (combination (eqb (length rs) 0) r.rfci r.sizes) (combinations rs) in
    omega arith

pub nibbles-length : (rs : List Row) → length (nibbles rs) ≡ (length rs + 1) / 2
unfolding nibbles
nibbles-length [] = refl
nibbles-length (r ∷ []) = refl
nibbles-length (r ∷ (s ∷ rs)) = let a = nibbles-length rs in omega arith

-- what is left to write has room for the next of it
next_room : (most : ℕ) (was all out next rest : List ℕ) → out ++ (next ++ rest) ≡ was ++ all → length was + length all ≤ most → length out + length next ≤ most
next_room most was all out next rest e h =
    let a = ap length e in
    let b = length-append out (next ++ rest) in
    let c = length-append next rest in
    let d = length-append was all in
    omega arith

pub size_room : (w : Bool) (ss : List ℕ) (k : ℕ) (was out : List ℕ) → k < length ss → out ++ sizes_octets w (drop k ss) ≡ was ++ sizes_octets w ss → length was + length (sizes_octets w ss) ≤ 128
    → length out + length (size_octets w (get_or ss k 0)) ≤ 128
unfolding sizes_octets
size_room w ss k was out h e l =
    let m : sizes_octets w (drop k ss) ≡ size_octets w (get_or ss k 0) ++ sizes_octets w (drop (k + 1) ss) = at_drop_more (sizes_octets w) ss k 0 h in
    next_room 128 was (sizes_octets w ss) out (size_octets w (get_or ss k 0)) (sizes_octets w (drop (k + 1) ss)) (ap (λ xs. out ++ xs) (sym m) ∙ e) l

room_at : (rs : List Row) (j : ℕ) (d : Row) (last : Bool) (was out : List ℕ) → j < length rs → last ≡ eqb (j + 1) (length rs) → out ++ combinations (drop j rs) ≡ was ++ combinations rs → length was + length (combinations rs) ≤ 128
    → length out + length (combination last (get_or rs j d).rfci (get_or rs j d).sizes) ≤ 128
unfolding combinations
room_at rs j d last was out h i e l =
    let x = get_or rs j d in
    let n = length-drop (j + 1) rs in
    let q : eqb (length (drop (j + 1) rs)) 0 ≡ last = grind (arith, nat_tests) in
    let m : combinations (drop j rs) ≡ combination (eqb (length (drop (j + 1) rs)) 0) x.rfci x.sizes ++ combinations (drop (j + 1) rs) = at_drop_more combinations rs j d h in
    let o : combinations (drop j rs) ≡ combination last x.rfci x.sizes ++ combinations (drop (j + 1) rs) = m ∙ ap (λ b. combination b x.rfci x.sizes ++ combinations (drop (j + 1) rs)) q in
    next_room 128 was (combinations rs) out (combination last x.rfci x.sizes) (combinations (drop (j + 1) rs)) (ap (λ xs. out ++ xs) (sym o) ∙ e) l

pub combination_room : (cs rs : List Row) (j : ℕ) (x d : Row) (last : Bool) (was out : List ℕ) → cs ≡ rs → x ≡ get_or cs j d → j < length cs → last ≡ eqb (j + 1) (length cs) → out ++ combinations (drop j rs) ≡ was ++ combinations rs → length was + length (combinations rs) ≤ 128
    → length out + length (combination last x.rfci x.sizes) ≤ 128
combination_room cs rs j x d last was out v i h b e l =
    let f : out ++ combinations (drop j cs) ≡ was ++ combinations cs = ap (λ xs. out ++ combinations (drop j xs)) v ∙ e ∙ ap (λ xs. was ++ combinations xs) (sym v) in
    let k = ap (λ xs. length (combinations xs)) v in
    let m = room_at cs j d last was out h b f (omega arith) in
    let n = ap (λ (y : Row). length (combination last y.rfci y.sizes)) i in
    omega arith

-- a part of a set
pub record Short (rs : List Row) : Type 0 where
  pub combinations : length (combinations rs) ≤ 120
  pub nibbles : length (nibbles rs) ≤ 4

pub part_short : (n : ℕ) (ti : Bool) (rs : List Row) → length rs ≤ 8 → n ≤ 7 → sound n ti rs ≡ true → Short rs
part_short n ti rs h f s =
    let c = combinations_short n ti rs f s in
    let k = nibbles-length rs in
    record { combinations = omega arith; nibbles = omega arith }
