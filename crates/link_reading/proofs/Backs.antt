-- What is written is read back, part by part.
-- Assumes nothing.
use Rattle.std.proofs.Common.{◌≡◌, ℕ, zero, suc, ◌+◌, ◌%◌, ◌<◌, ◌≤◌, Bool, true, false, cond, eqb, ltb, List, [], ◌∷◌, ◌++◌, length, get_or, drop, Some, sym, refl, ap, ◌∙◌, one-add, arith}
use Rattle.std.proofs.lemmas.List.{append_assoc, append-nil, length-append, drop_at}
use Rattle.std.proofs.lemmas.Bool.{le-ltb, and_parts, eq-eqb, ne_eqb, cond-false}
use Rattle.std.proofs.lemmas.Nat.{div-add-mod', div-mul-add, mod-mul-add}
use Rattle.sets.specs.Rows.{Row, free}
use Rattle.link_building.specs.Wire.{wide, size_octets, sizes_octets, combination, combinations, nibbles}
use Rattle.link_reading.specs.Layout.{is_last, is_wide, width, onward, extent, sizes_in, halves, rows_in}

-- the sizes
pub sizes_back : (w : Bool) (ss rest : List ℕ) → sizes_in w (length ss) (sizes_octets w ss ++ rest) ≡ ss
unfolding sizes_in sizes_octets size_octets
sizes_back w [] rest = refl
sizes_back true (s ∷ ss) rest =
    let a = div-add-mod' s 256 in
    let b = sizes_back true ss rest in
    cc
sizes_back false (s ∷ ss) rest = ap (λ xs. s ∷ xs) (sizes_back false ss rest)

pub sizes-length : (w : Bool) (ss : List ℕ) → length (sizes_octets w ss) ≡ width (length ss) w
unfolding sizes_octets size_octets
sizes-length true [] = refl
sizes-length false [] = refl
sizes-length true (s ∷ ss) = let a = sizes-length true ss in omega arith
sizes-length false (s ∷ ss) = let a = sizes-length false ss in omega arith

-- the first octet
abbrev pub head : Bool → Bool → ℕ → ℕ
head last w r = cond last 128 0 + cond w 64 0 + r

pub head-wide : (last w : Bool) (r : ℕ) → r < 64 → is_wide (head last w r) ≡ w
head-wide true true r h = eq-eqb _ 1 (omega arith)
head-wide true false r h = ne_eqb _ 1 (λ e. omega arith)
head-wide false true r h = eq-eqb _ 1 (omega arith)
head-wide false false r h = ne_eqb _ 1 (λ e. omega arith)

pub head_last : (last w : Bool) (r : ℕ) → r < 64 → is_last (head last w r) ≡ last
head_last true true r h = eq-eqb _ 1 (omega arith)
head_last true false r h = eq-eqb _ 1 (omega arith)
head_last false true r h = ne_eqb _ 1 (λ e. omega arith)
head_last false false r h = ne_eqb _ 1 (λ e. omega arith)

pub head-rfci : (last w : Bool) (r : ℕ) → r < 64 → head last w r % 64 ≡ r
head-rfci true true r h = omega arith
head-rfci true false r h = omega arith
head-rfci false true r h = omega arith
head-rfci false false r h = omega arith

-- rows that can be written
abbrev pub Good : ℕ → List Row → Type 0
Good n [] = Unit {0}
Good n (r ∷ rs) = (r.rfci < 64) × (length r.sizes ≡ n) × Good n rs

-- a combination and what follows, in one list
octets_split : (last : Bool) (r : Row) (rs : List Row) (rest : List ℕ)
    → (combination last r.rfci r.sizes ++ combinations rs) ++ rest ≡ head last (wide r.sizes) r.rfci ∷ (sizes_octets (wide r.sizes) r.sizes ++ (combinations rs ++ rest))
unfolding combination
octets_split last r rs rest = ap (λ xs. head last (wide r.sizes) r.rfci ∷ xs) (append_assoc (sizes_octets (wide r.sizes) r.sizes) (combinations rs) rest)

extent-head : (f n o w : ℕ) (os : List ℕ) → w ≡ width n (is_wide o) → w ≤ length os
    → extent (suc f) n (o ∷ os) ≡ cond (is_last o) (Some (record { count = 1; octets = 1 + w })) (onward 1 (1 + w) (extent f n (drop w os)))
unfolding extent
extent-head f n o w os e l =
    let t : ltb (length os) (width n (is_wide o)) ≡ false = le-ltb _ _ (omega arith) in
    rw (t, ← e)

extent_of : (f n : ℕ) (last : Bool) (r : Row) (rs : List Row) (rest : List ℕ) → r.rfci < 64 → length r.sizes ≡ n
    → extent (suc f) n ((combination last r.rfci r.sizes ++ combinations rs) ++ rest)
    ≡ cond last (Some (record { count = 1; octets = length (combination last r.rfci r.sizes) })) (onward 1 (length (combination last r.rfci r.sizes)) (extent f n (combinations rs ++ rest)))
unfolding combination
extent_of f n last r rs rest h l =
    let w = wide r.sizes in
    let S = sizes_octets w r.sizes in
    let o = head last w r.rfci in
    let a : length S ≡ width n w = sizes-length w r.sizes ∙ ap (λ k. width k w) l in
    let v : length S ≡ width n (is_wide o) = a ∙ ap (width n) (sym (head-wide last w r.rfci h)) in
    let x = length-append S (combinations rs ++ rest) in
    let e = extent-head f n o (length S) (S ++ (combinations rs ++ rest)) v (omega arith) in
    let d : drop (length S) (S ++ (combinations rs ++ rest)) ≡ combinations rs ++ rest = drop_at S (combinations rs ++ rest) (length S) refl in
    let s : 1 + length S ≡ suc (length S) = one-add (length S) in
    ap (extent (suc f) n) (octets_split last r rs rest) ∙ e ∙ rw (head_last last w r.rfci h, d, s)

-- the extent of what is written
pub extent_back : (f n : ℕ) (rs : List Row) (rest : List ℕ) → 1 ≤ length rs → length rs ≤ f → Good n rs → extent f n (combinations rs ++ rest) ≡ Some (record { count = length rs; octets = length (combinations rs) })
unfolding combinations
extent_back f n [] rest s l g = absurd (omega arith)
extent_back zero n (r ∷ rs) rest s l g = absurd (omega arith)
extent_back (suc f) n (r ∷ []) rest s l g =
    extent_of f n true r [] rest g.0 g.1 ∙ rw (append-nil (combination true r.rfci r.sizes))
extent_back (suc f) n (r ∷ (q ∷ rs)) rest s l g =
    let last = eqb (length (q ∷ rs)) 0 in
    let z : last ≡ false = ne_eqb (length (q ∷ rs)) 0 (λ e. omega arith) in
    let c = combination last r.rfci r.sizes in
    let i = extent_back f n (q ∷ rs) rest (omega arith) (omega arith) g.2 in
    let a = length-append c (combinations (q ∷ rs)) in
    let e = extent_of f n last r (q ∷ rs) rest g.0 g.1 in
    let k : 1 + length (q ∷ rs) ≡ length (r ∷ (q ∷ rs)) = one-add (length (q ∷ rs)) in
    let step : onward 1 (length c) (Some (record { count = length (q ∷ rs); octets = length (combinations (q ∷ rs)) })) ≡ Some (record { count = length (r ∷ (q ∷ rs)); octets = length (c ++ combinations (q ∷ rs)) }) = rw (k, a) in
    e ∙ cond-false last _ _ z ∙ ap (onward 1 (length c)) i ∙ step

-- the half octets that stand for the IPTIs of rows
abbrev pub Halved : List Row → List ℕ → Type 0
Halved [] hs = Unit {0}
Halved (r ∷ rs) hs = (get_or hs 0 0 ≡ r.ipti) × Halved rs (drop 1 hs)

abbrev pub Timely : List Row → Type 0
Timely [] = Unit {0}
Timely (r ∷ rs) = (r.ipti < 16) × Timely rs

pub halves_back : (rs : List Row) (rest : List ℕ) → Timely rs → Halved rs (halves (nibbles rs ++ rest))
unfolding nibbles halves
halves_back [] rest t = tt
halves_back (r ∷ []) rest t = (omega arith, tt)
halves_back (r ∷ (s ∷ rs)) rest t = (div-mul-add r.ipti 16 s.ipti t.1.0, (mod-mul-add r.ipti 16 s.ipti t.1.0, halves_back rs rest t.1.1))

-- the rows that were written
pub rows_back : (n : ℕ) (rs : List Row) (rest hs : List ℕ) → Good n rs → free rs ≡ true → Halved rs hs → rows_in (length rs) n (combinations rs ++ rest) hs ≡ rs
unfolding rows_in combinations combination free
rows_back n [] rest hs g a t = refl
rows_back n (r ∷ rs) rest hs g al t =
    let fr = and_parts r.allowed (free rs) al in
    let last = eqb (length rs) 0 in
    let w = wide r.sizes in
    let S = sizes_octets w r.sizes in
    let o = head last w r.rfci in
    let more = S ++ (combinations rs ++ rest) in
    let sp = octets_split last r rs rest in
    let hw = head-wide last w r.rfci g.0 in
    let hr = head-rfci last w r.rfci g.0 in
    let a : length S ≡ width n w = sizes-length w r.sizes ∙ ap (λ k. width k w) g.1 in
    let s : sizes_in w n more ≡ r.sizes = ap (λ k. sizes_in w k more) (sym g.1) ∙ sizes_back w r.sizes (combinations rs ++ rest) in
    let d : drop (1 + width n w) (o ∷ more) ≡ combinations rs ++ rest = ap (λ k. drop k (o ∷ more)) (one-add (width n w)) ∙ drop_at S (combinations rs ++ rest) (width n w) a in
    let i = rows_back n rs rest (drop 1 hs) g.2 fr.1 t.1 in
    ap (λ xs. rows_in (suc (length rs)) n xs hs) sp ∙ rw (hw, hr, s, d, t.0, i, ← fr.0)
