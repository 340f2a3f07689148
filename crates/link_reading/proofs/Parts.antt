-- Sizes, one by one.
-- Assumes nothing.
use Rattle.std.proofs.Common.{◌≡◌, ℕ, zero, suc, ◌+◌, ◌-◌, ◌<◌, ◌≤◌, min, Bool, true, false, List, [], ◌∷◌, ◌++◌, length, sym, refl, ap, ◌∙◌, arith}
use Rattle.std.proofs.lemmas.List.{append_assoc, append-nil, length-append, length_push}
use Rattle.link_reading.specs.Layout.{size_of, sizes_in, width}

-- a size that stands in front of the others
sizes_first : (w : Bool) (n x : ℕ) (xs ys : List ℕ) → length xs ≡ width 1 w → x ≡ size_of xs → sizes_in w (suc n) (xs ++ ys) ≡ x ∷ sizes_in w n ys
unfolding sizes_in
sizes_first true n x [] ys l e = absurd (omega arith)
sizes_first true n x (a ∷ []) ys l e = absurd (omega arith)
sizes_first true n x (a ∷ (b ∷ [])) ys l e = ap (λ z. z ∷ sizes_in true n ys) (sym e)
sizes_first true n x (a ∷ (b ∷ (c ∷ xs))) ys l e = absurd (omega arith)
sizes_first false n x [] ys l e = absurd (omega arith)
sizes_first false n x (a ∷ []) ys l e = ap (λ z. z ∷ sizes_in false n ys) (sym e)
sizes_first false n x (a ∷ (b ∷ xs)) ys l e = absurd (omega arith)

width_less : (w : Bool) (k : ℕ) → width (k + 1) w ≡ width k w + width 1 w
width_less true k = omega arith
width_less false k = refl

none_more : (w : Bool) (k : ℕ) → width k w ≡ 0 → k ≡ 0
none_more true k h = omega arith
none_more false k h = h

-- a turn of the loop over sizes: `k` of `n` are read
pub record Turned (w : Bool) (n : ℕ) (ss : List ℕ) (rest was : List ℕ) : Type 0 where
  pub sizes : ss ++ sizes_in w (n - length ss) rest ≡ was
  pub few : length ss ≤ n
  pub left : length rest ≡ width (n - length ss) w

more_left : (w : Bool) (k : ℕ) (whole : List ℕ) → 0 < length whole → length whole ≡ width k w → (m : ℕ) × (k ≡ m + 1)
more_left true zero whole p h = absurd (omega arith)
more_left false zero whole p h = absurd (omega arith)
more_left w (suc m) whole p h = (m, omega arith)

pub sizes_room : (w : Bool) (n : ℕ) (ss whole was : List ℕ) → Turned w n ss whole was → 0 < length whole → n ≤ 7 → length ss < 7
sizes_room w n ss whole was t p h = let m = more_left w (n - length ss) whole p t.left in omega (arith, m.1)

pub sizes_turn : (w : Bool) (n x : ℕ) (whole xs ys ss out was : List ℕ) → Turned w n ss whole was → whole ≡ xs ++ ys → length xs ≡ min (width 1 w) (length whole) → 0 < length whole
    → x ≡ size_of xs → out ≡ ss ++ x ∷ [] → Turned w n out ys was
sizes_turn w n x whole xs ys ss out was t e l p f g =
    let k = n - length ss in
    let m = more_left w k whole p t.left in
    let q : k ≡ suc m.0 = omega arith in
    let d = width_less w m.0 in
    let v : width k w ≡ width m.0 w + width 1 w = ap (λ j. width j w) m.1 ∙ d in
    let tl = t.left in
    let lx : length xs ≡ width 1 w = omega arith in
    let la = ap length e ∙ length-append xs ys in
    let lo = ap length g ∙ length_push ss x in
    let r : n - length out ≡ m.0 = omega arith in
    let s = sizes_first w m.0 x xs ys lx f in
    let a = append_assoc ss (x ∷ []) (sizes_in w m.0 ys) in
    let z : sizes_in w k whole ≡ x ∷ sizes_in w m.0 ys = ap (λ j. sizes_in w j whole) q ∙ ap (sizes_in w (suc m.0)) e ∙ s in
    record {
      sizes = ap (λ j. out ++ sizes_in w j ys) r ∙ ap (λ xs. xs ++ sizes_in w m.0 ys) g ∙ a ∙ sym (ap (λ xs. ss ++ xs) z) ∙ t.sizes;
      few = omega arith;
      left = omega (arith, ap (λ j. width j w) r);
    }

pub sizes_done : (w : Bool) (n : ℕ) (ss rest was : List ℕ) → Turned w n ss rest was → length rest ≡ 0 → ss ≡ was
unfolding sizes_in
sizes_done w n ss rest was t h =
    let k = none_more w (n - length ss) (sym t.left ∙ h) in
    sym (append-nil ss) ∙ sym (ap (λ j. ss ++ sizes_in w j rest) k) ∙ t.sizes
