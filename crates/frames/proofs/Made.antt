-- An array made from a function of the place.
-- Assumes nothing.
use Rattle.std.proofs.Common.{◌≡◌, ℕ, zero, suc, ◌+◌, ◌<◌, ◌≤◌, List, get_or, sym, subst, ⊎_elim, arith}
use Rattle.std.proofs.lemmas.Bool.{cases_eq}
use Rattle.std.specs.Array.{IsFromFnResultFrom}
use Rattle.std.specs.Fn.{Called, Mut}

-- what holds of each answer of a closure that stays as it is holds of the element at each place
pub made_at : {F B : Type 0} (g : Mut F (ℕ × Unit {0}) B) (P : ℕ → B → Type 0) (f : F) (ys : List B) (i n : ℕ) → ((k : ℕ) (y : B) (q : F) → Called g f (k, tt) y q → (q ≡ f) × P k y) → IsFromFnResultFrom g f ys i n → (k : ℕ) (d : B) → i ≤ k → k < i + n → P k (get_or ys k d)
made_at g P f ys i zero keeps made k d low high = absurd (omega arith)
made_at g P f ys i (suc n) keeps made k d low high =
    let kept = keeps i made.1 made.0 made.3 in
    let again = subst (λ s. (m : ℕ) (y : _) (q : _) → Called g s (m, tt) y q → (q ≡ s) × P m y) (sym kept.0) keeps in
    ⊎_elim
    (λ e. subst (λ m. P m (get_or ys m d)) e (subst (P i) (sym (made.2.1 d)) kept.1))
    (λ e. made_at g P made.0 ys (i + 1) n again made.4 k d (omega arith) (omega arith))
    (cases_eq i k)
