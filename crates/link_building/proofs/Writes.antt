-- What is written, step by step.
-- Assumes nothing.
use Rattle.std.proofs.Common.{◌≡◌, ℕ, zero, suc, ◌+◌, ◌*◌, ◌<◌, ◌≤◌, Bool, false, cond, ◌||◌, eqb, ltb, List, [], ◌∷◌, ◌++◌, length, get_or, drop, sym, ap, refl, ◌∙◌, arith}
use Rattle.std.proofs.lemmas.List.{at_drop_more, at_drop_all, append_assoc, append-nil, length-drop}
use Rattle.std.proofs.lemmas.Bool.{or_parts, ltb-false}
use Rattle.std.proofs.lemmas.Bool.Decides.{nat_tests}
use Rattle.sets.specs.Rows.{Row}
use Rattle.link_building.specs.Wire.{wide, size_octets, sizes_octets, combination, combinations, nibbles, payload}

wide_more : (s : ℕ) (ss : List ℕ) → wide (s ∷ ss) ≡ (ltb 255 s || wide ss)
unfolding wide
wide_more s ss = refl

pub narrow_at : (ss : List ℕ) (k : ℕ) → wide ss ≡ false → k < length ss → get_or ss k 0 < 256
narrow_at [] k w h = absurd (omega arith)
narrow_at (s ∷ ss) zero w h = omega (arith, ltb-false 255 s (or_parts (ltb 255 s) (wide ss) (sym (wide_more s ss) ∙ w)).0)
narrow_at (s ∷ ss) (suc k) w h = narrow_at ss k (or_parts (ltb 255 s) (wide ss) (sym (wide_more s ss) ∙ w)).1 (omega arith)

-- one size more
pub sizes_more : (w : Bool) (ss : List ℕ) (k : ℕ) (was out : List ℕ) → k < length ss → out ≡ was ++ size_octets w (get_or ss k 0) → out ++ sizes_octets w (drop (k + 1) ss) ≡ was ++ sizes_octets w (drop k ss)
unfolding sizes_octets
sizes_more w ss k was out h e =
    let m : sizes_octets w (drop k ss) ≡ size_octets w (get_or ss k 0) ++ sizes_octets w (drop (k + 1) ss) = at_drop_more (sizes_octets w) ss k 0 h in
    let a = append_assoc was (size_octets w (get_or ss k 0)) (sizes_octets w (drop (k + 1) ss)) in
    cc

pub sizes_all : (w : Bool) (ss : List ℕ) (k : ℕ) (out : List ℕ) → length ss ≤ k → out ++ sizes_octets w (drop k ss) ≡ out
unfolding sizes_octets
sizes_all w ss k out h = ap (λ xs. out ++ xs) (at_drop_all (sizes_octets w) ss k h) ∙ append-nil out

pub combination_is : (last w : Bool) (rfci o : ℕ) (ss was : List ℕ) → w ≡ wide ss → o ≡ cond last 128 0 + cond w 64 0 + rfci → (was ++ o ∷ []) ++ sizes_octets w ss ≡ was ++ combination last rfci ss
unfolding combination
combination_is last w rfci o ss was e f = rw (append_assoc, f, e)

-- one combination more
pub combinations_more : (rs : List Row) (j : ℕ) (d : Row) (last : Bool) (was out : List ℕ) → j < length rs → last ≡ eqb (j + 1) (length rs)
    → out ≡ was ++ combination last (get_or rs j d).rfci (get_or rs j d).sizes → out ++ combinations (drop (j + 1) rs) ≡ was ++ combinations (drop j rs)
unfolding combinations
combinations_more rs j d last was out h l e =
    let x = get_or rs j d in
    let m : combinations (drop j rs) ≡ combination (eqb (length (drop (j + 1) rs)) 0) x.rfci x.sizes ++ combinations (drop (j + 1) rs) = at_drop_more combinations rs j d h in
    let n = length-drop (j + 1) rs in
    let q : eqb (length (drop (j + 1) rs)) 0 ≡ eqb (j + 1) (length rs) = grind (arith, nat_tests) in
    let a = append_assoc was (combination last x.rfci x.sizes) (combinations (drop (j + 1) rs)) in
    cc

pub combinations_all : (rs : List Row) (j : ℕ) (out : List ℕ) → length rs ≤ j → out ++ combinations (drop j rs) ≡ out
unfolding combinations
combinations_all rs j out h = ap (λ xs. out ++ xs) (at_drop_all combinations rs j h) ∙ append-nil out

-- the parts of a payload, one after the other
pub payload_is : (n : ℕ) (ti : Bool) (type : ℕ) (chain : Bool) (rs : List Row) (h : ℕ) (o a b d r : List ℕ)
    → o ≡ [] → h ≡ cond ti 16 0 + n * 2 + cond chain 1 0 → a ≡ o ++ h ∷ [] → b ≡ a ++ combinations rs → d ≡ b ++ cond ti (nibbles rs) [] → r ≡ d ++ (0 ∷ 1 ∷ type * 16 ∷ [])
    → r ≡ payload n ti type chain rs
unfolding payload
payload_is n ti type chain rs h o a b d r eo eh ea eb ed er =
    let I : List ℕ = cond ti (nibbles rs) [] in
    let all : r ≡ ((([] ++ h ∷ []) ++ combinations rs) ++ I) ++ (0 ∷ 1 ∷ type * 16 ∷ []) = cc in
    let end : List ℕ = combinations rs ++ (I ++ (0 ∷ 1 ∷ type * 16 ∷ [])) in
    let flat : ((([] ++ h ∷ []) ++ combinations rs) ++ I) ++ (0 ∷ 1 ∷ type * 16 ∷ []) ≡ h ∷ end = simp append_assoc in
    all ∙ flat ∙ ap (λ m. m ∷ end) eh
