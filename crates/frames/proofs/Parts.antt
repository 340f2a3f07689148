-- Two parts written one after the other over blanks.
use Rattle.std.proofs.Common.{◌≡◌, ℕ, ◌+◌, ◌-◌, List, ◌++◌, length, take, drop, replicate, sym, refl, ap, ◌∙◌, append_assoc, arith}
use Rattle.std.proofs.lemmas.List.{take_at, drop-replicate}
use Rattle.std.proofs.Math.Seq.{drop-append-add}

abbrev pub over : {A : Type 0} → ℕ → List A → List A → List A
over place items cells = take place cells ++ (items ++ drop (place + length items) cells)

pub both_laid : {A : Type 0} (blank : A) (n : ℕ) (f b : List A) → over (length f) b (over 0 f (replicate n blank)) ≡ (f ++ b) ++ replicate (n - (length f + length b)) blank
both_laid {A} blank n f b =
    let z : List A = drop (0 + length f) (replicate n blank) in
    let t : take (length f) (f ++ z) ≡ f = take_at f z (length f) refl in
    let d : drop (length f + length b) (f ++ z) ≡ drop (length b) z = drop-append-add f z (length b) in
    let e : z ≡ replicate (n - (0 + length f)) blank = drop-replicate (0 + length f) n blank in
    let g : drop (length b) (replicate (n - (0 + length f)) blank) ≡ replicate (n - (0 + length f) - length b) blank = drop-replicate (length b) (n - (0 + length f)) blank in
    let k : n - (0 + length f) - length b ≡ n - (length f + length b) = omega arith in
    ap (λ (x : List A). x ++ (b ++ drop (length f + length b) (f ++ z))) t
    ∙ ap (λ (r : List A). f ++ (b ++ r)) (d ∙ ap (drop (length b)) e ∙ g ∙ ap (λ m. replicate m blank) k)
    ∙ sym (append_assoc f b (replicate (n - (length f + length b)) blank))
