-- Cells with blanks behind the items stay so.
use Rattle.std.proofs.Common.{◌≡◌, ℕ, ◌+◌, ◌-◌, ◌<◌, ◌≤◌, List, ◌++◌, take, drop, length, replicate, slice_set, sym, ◌∙◌, ap, arith, subst}
use Rattle.std.proofs.lemmas.List.{drop-set-lt, drop-replicate, take-append-drop, length-take-le}
use Rattle.std.proofs.Math.Seq.{drop-append-add}

abbrev pub Tailed : {A : Type 0} → A → ℕ → ℕ → List A → Type 0
Tailed blank size n xs = xs ≡ take n xs ++ replicate (size - n) blank

ahead : {A : Type 0} (blank : A) (size n m : ℕ) (xs : List A) → n ≤ length xs → Tailed blank size n xs → drop (n + m) xs ≡ replicate (size - n - m) blank
ahead {A} blank size n m xs l h =
    ap (drop (n + m)) h
    ∙ subst (λ k. drop (k + m) (take n xs ++ replicate (size - n) blank) ≡ drop m (replicate (size - n) blank)) (length-take-le n xs l) (drop-append-add (take n xs) (replicate (size - n) blank) m)
    ∙ drop-replicate m (size - n) blank

pub tailed_push : {A : Type 0} (blank : A) (size n : ℕ) (xs : List A) (x : A) → length xs ≡ size → n < size → Tailed blank size n xs → Tailed blank size (n + 1) (slice_set xs n x)
tailed_push {A} blank size n xs x w l h =
    let s : size - n - 1 ≡ size - (n + 1) = omega arith in
    sym (take-append-drop (n + 1) (slice_set xs n x))
    ∙ ap (λ t. take (n + 1) (slice_set xs n x) ++ t) (drop-set-lt (n + 1) xs n x (omega arith) ∙ ahead blank size n 1 xs (omega arith) h ∙ ap (λ k. replicate k blank) s)

pub tailed_set : {A : Type 0} (blank : A) (size n i : ℕ) (xs : List A) (x : A) → i < n → n ≤ length xs → Tailed blank size n xs → Tailed blank size n (slice_set xs i x)
tailed_set {A} blank size n i xs x l m h =
    let z : n + 0 ≡ n = omega arith in
    let s : size - n - 0 ≡ size - n = omega arith in
    let k : drop n xs ≡ replicate (size - n) blank = ap (λ j. drop j xs) (sym z) ∙ ahead blank size n 0 xs m h ∙ ap (λ j. replicate j blank) s in
    sym (take-append-drop n (slice_set xs i x)) ∙ ap (λ t. take n (slice_set xs i x) ++ t) (drop-set-lt n xs i x l ∙ k)
