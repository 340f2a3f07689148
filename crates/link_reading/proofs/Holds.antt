-- Rows added one by one.
-- Assumes nothing.
use Rattle.std.proofs.Common.{◌≡◌, ℕ, ◌+◌, Bool, List, [], ◌∷◌, ◌++◌, length, Some, None, Ok, Err, Result, sym, refl, ap, ◌∙◌, arith}
use Rattle.std.proofs.lemmas.List.{length_push}
use Rattle.frames.specs.declared.refusal.Refusal.{Refusal}
use Rattle.sets.specs.Rows.{Row}
use Rattle.sets.specs.Drafts.{admitted}
use Rattle.std.specs.Result.{IsErr}
use Rattle.link_reading.specs.Adding.{add_all, kept}

pub all_more : (n : ℕ) (ti : Bool) (held : List Row) (r : Row) (rs : List Row) → admitted n ti held r ≡ Ok tt → add_all n ti held (r ∷ rs) ≡ add_all n ti (held ++ r ∷ []) rs
unfolding add_all
all_more n ti held r rs h = rw (h, add_all)

pub all_refused : (n : ℕ) (ti : Bool) (held : List Row) (r : Row) (rs : List Row) (e : Refusal) → admitted n ti held r ≡ Err e → add_all n ti held (r ∷ rs) ≡ None
unfolding add_all
all_refused n ti held r rs e h = rw (h, add_all)

pub all_none : (n : ℕ) (ti : Bool) (held : List Row) → add_all n ti held [] ≡ Some held
unfolding add_all
all_none n ti held = refl

-- the row in front is refused or added, by the opening values of the draft
pub turn_refused : (n k : ℕ) (ti u : Bool) (held : List Row) (x : Row) (rs all : List Row) (e : Refusal) → k ≡ n → u ≡ ti → all ≡ x ∷ rs → Err e ≡ admitted k u held x → None ≡ add_all n ti held all
turn_refused n k ti u held x rs all e a b d h =
    let z : admitted n ti held x ≡ Err e = cc in
    sym (ap (add_all n ti held) d ∙ all_refused n ti held x rs e z)

pub turn_added : (n k : ℕ) (ti u : Bool) (held more : List Row) (x : Row) (rs all : List Row) → k ≡ n → u ≡ ti → all ≡ x ∷ rs → Ok tt ≡ admitted k u held x → more ≡ held ++ x ∷ [] → add_all n ti more rs ≡ add_all n ti held all
turn_added n k ti u held more x rs all a b d h e =
    let z : admitted n ti held x ≡ Ok tt = cc in
    ap (λ xs. add_all n ti xs rs) e ∙ sym (ap (add_all n ti held) d ∙ all_more n ti held x rs z)

pub refused_none : (x : Result Unit Refusal) (rs : List Row) → IsErr x → kept x rs ≡ None
refused_none (Ok u) rs h = cc
refused_none (Err e) rs h = refl

-- adding makes rows longer
length_step : (n : ℕ) (ti : Bool) (held : List Row) (r : Row) (rs xs : List Row) (x : Result Unit Refusal) → admitted n ti held r ≡ x → Some xs ≡ add_all n ti held (r ∷ rs)
    → ((more : List Row) → Some xs ≡ add_all n ti more rs → length xs ≡ length more + length rs) → length xs ≡ length held + length (r ∷ rs)
length_step n ti held r rs xs (Ok tt) e h ih =
    let i = ih (held ++ r ∷ []) (h ∙ all_more n ti held r rs e) in
    let m = length_push held r in
    omega arith
length_step n ti held r rs xs (Err d) e h ih =
    let k = h ∙ all_refused n ti held r rs d e in
    let z : ◌≡◌ {A = ℕ} 0 1 = cc in
    absurd (omega arith)

pub all_length : (n : ℕ) (ti : Bool) (held rs xs : List Row) → Some xs ≡ add_all n ti held rs → length xs ≡ length held + length rs
unfolding add_all
all_length n ti held [] xs h =
    let e : xs ≡ held = cc in
    let l = ap length e in
    omega arith
all_length n ti held (r ∷ rs) xs h = length_step n ti held r rs xs (admitted n ti held r) refl h (λ more. all_length n ti more rs xs)
