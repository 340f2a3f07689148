-- The rows of a part of a set, one by one and two by two.
-- Assumes nothing.
use Rattle.std.proofs.Common.{◌≡◌, ℕ, ◌+◌, ◌<◌, ◌≤◌, min, Bool, true, false, eqb, List, [], ◌∷◌, ◌++◌, length, get_or, drop, All, sym, refl, ap, ◌∙◌, arith}
use Rattle.std.proofs.lemmas.List.{length-append, length_push, get_or_append_left, get_or_push, append-nil, append_assoc}
use Rattle.std.proofs.lemmas.Bool.Decides.{nat_tests}
use Rattle.sets.specs.Rows.{Row, sound}
use Rattle.sets.proofs.Fitting.{fit_at, ipti_small}
use Rattle.link_building.specs.Wire.{combination, combinations, nibbles}
use Rattle.link_building.proofs.Writes.{combinations_more}

pub iptis_small : (n : ℕ) (ti : Bool) (rs : List Row) → sound n ti rs ≡ true → All (λ (r : Row). r.ipti ≤ 15) rs
iptis_small n ti rs s = λ k d h. ipti_small n ti (get_or rs k d) (fit_at n ti rs k d s h)

-- one combination more
pub combination_turn : (cs rs : List Row) (j : ℕ) (d : Row) (last : Bool) (was out : List ℕ) → cs ≡ rs → j < length cs → last ≡ eqb (j + 1) (length cs)
    → out ≡ was ++ combination last (get_or cs j d).rfci (get_or cs j d).sizes → out ++ combinations (drop (j + 1) rs) ≡ was ++ combinations (drop j rs)
combination_turn cs rs j d last was out v h l e = rw (← v) (combinations_more cs j d last was out h l e)

-- where a row stands among others, and whether it is the last
pub record Stands (cs : List Row) (j : ℕ) (r : Row) (last : Bool) : Type 0 where
  pub is : r ≡ get_or cs j r
  pub within : j < length cs
  pub ends : last ≡ eqb (j + 1) (length cs)

pub other_stands : (cs ys : List Row) (x r : Row) (j : ℕ) → cs ≡ ys ++ x ∷ [] → r ≡ get_or ys j r → j < length ys → Stands cs j r false
other_stands cs ys x r j e i h =
    let l = ap length e ∙ length_push ys x in
    record { is = i ∙ sym (get_or_append_left ys (x ∷ []) r j h) ∙ ap (λ rs. get_or rs j r) (sym e); within = omega arith; ends = grind (arith, nat_tests) }

pub last_stands : (cs ys : List Row) (x : Row) → cs ≡ ys ++ x ∷ [] → Stands cs (length ys) x true
last_stands cs ys x e =
    let l = ap length e ∙ length_push ys x in
    record { is = sym (get_or_push ys x x (length ys) refl) ∙ ap (λ rs. get_or rs (length ys) x) (sym e); within = omega arith; ends = grind (arith, nat_tests) }

-- the IPTIs of two rows, or of the last one, and then the others
nibbles_split : (xs ys : List Row) → 1 ≤ length xs → length xs ≤ 2 → (length xs < 2 → ys ≡ []) → nibbles (xs ++ ys) ≡ nibbles xs ++ nibbles ys
unfolding nibbles
nibbles_split [] ys a b e = absurd (omega arith)
nibbles_split (x ∷ []) ys a b e = rw (e (omega arith))
nibbles_split (x ∷ (y ∷ [])) ys a b e = refl
nibbles_split (x ∷ (y ∷ (z ∷ xs))) ys a b e = absurd (omega arith)

none_left : (ys : List Row) → length ys ≡ 0 → ys ≡ []
none_left [] h = refl
none_left (y ∷ ys) h = absurd (omega arith)

pub nibbles_turn : (o : ℕ) (all xs ys : List Row) (was out : List ℕ) → all ≡ xs ++ ys → length xs ≡ min 2 (length all) → 0 < length all → nibbles xs ≡ o ∷ [] → out ≡ was ++ o ∷ []
    → out ++ nibbles ys ≡ was ++ nibbles all
nibbles_turn o all xs ys was out e l p q r =
    let s : length all ≡ length xs + length ys = ap length e ∙ length-append xs ys in
    let m = nibbles_split xs ys (omega arith) (omega arith) (λ h. none_left ys (omega arith)) in
    let a = append_assoc was (o ∷ []) (nibbles ys) in
    ap (λ zs. zs ++ nibbles ys) r ∙ a ∙ ap (λ zs. was ++ (zs ++ nibbles ys)) (sym q) ∙ sym (ap (λ zs. was ++ zs) (ap nibbles e ∙ m))

pub nibbles_end : (rs : List Row) (out : List ℕ) → length rs ≡ 0 → out ++ nibbles rs ≡ out
unfolding nibbles
nibbles_end [] out h = append-nil out
nibbles_end (r ∷ rs) out h = absurd (omega arith)
