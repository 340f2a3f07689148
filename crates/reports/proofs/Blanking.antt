-- Blanks over what is in use.
use Rattle.std.proofs.Common.{◌≡◌, ℕ, zero, suc, ◌+◌, ◌-◌, ◌<◌, ◌≤◌, List, ◌∷◌, [], ◌++◌, length, take, drop, replicate, slice_set, refl, ap, ◌∙◌, subst, arith}
use Rattle.std.proofs.lemmas.List.{length-take-le, replicate-append-replicate}
use Rattle.std.proofs.Math.Seq.{drop-append_seam}

over : {A : Type 0} (b : A) (i : ℕ) (xs : List A) → i < length xs → slice_set (replicate i b ++ drop i xs) i b ≡ replicate (suc i) b ++ drop (suc i) xs
over b i [] h = absurd (omega (arith, h))
over b zero (x ∷ xs) h = refl
over b (suc i) (x ∷ xs) h = ap (λ t. b ∷ t) (over b i xs (omega arith))

-- one blank more
pub blanked : {A : Type 0} (b : A) (i : ℕ) (xs : List A) → i < length xs → slice_set (replicate i b ++ drop i xs) i b ≡ replicate (i + 1) b ++ drop (i + 1) xs
blanked b i xs h =
    let e : suc i ≡ i + 1 = omega arith in
    subst (λ n. slice_set (replicate i b ++ drop i xs) i b ≡ replicate n b ++ drop n xs) e (over b i xs h)

-- blanks over what is in use, before the blanks behind it: blanks everywhere
pub cleared : {A : Type 0} (b : A) (n : ℕ) (xs : List A) → n ≤ length xs → xs ≡ take n xs ++ replicate (length xs - n) b → replicate (length (take n xs)) b ++ drop n xs ≡ replicate (length xs) b
cleared b n xs l h =
    let k : length (take n xs) ≡ n = length-take-le n xs l in
    let behind : drop n xs ≡ replicate (length xs - n) b = ap (drop n) h ∙ subst (λ m. drop m (take n xs ++ replicate (length xs - n) b) ≡ replicate (length xs - n) b) k (drop-append_seam (take n xs) (replicate (length xs - n) b)) in
    ap (λ m. replicate m b ++ drop n xs) k
    ∙ ap (λ t. replicate n b ++ t) behind
    ∙ replicate-append-replicate n (length xs - n) b
    ∙ ap (λ m. replicate m b) (omega arith)
