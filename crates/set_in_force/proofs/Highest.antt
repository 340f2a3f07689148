-- The highest RFCI of sound rows.
-- Assumes nothing.
use Rattle.std.proofs.Common.{◌≡◌, ℕ, ◌≤◌, max, Bool, true, ◌&&◌, List, [], ◌∷◌, arith}
use Rattle.std.specs.List.{fold}
use Rattle.std.proofs.lemmas.Bool.{and_parts}
use Rattle.sets.specs.Rows.{Row, fresh, fits, sound}
use Rattle.sets.proofs.Fitting.{fit}
use Rattle.set_in_force.specs.Looks.{highest_of}

highest_from : (n : ℕ) (ti : Bool) (most : ℕ) (rs : List Row) → sound n ti rs ≡ true → most ≤ 62 → fold (λ most r. max most r.rfci) most rs ≤ 62
unfolding sound
highest_from n ti most [] s h = h
highest_from n ti most (r ∷ rs) s h =
    let p = and_parts (fits n ti r) (fresh r.rfci rs && sound n ti rs) s in
    let f = (fit n ti r p.0).rfci in
    highest_from n ti (max most r.rfci) rs (and_parts (fresh r.rfci rs) (sound n ti rs) p.1).1 (omega arith)

pub highest_low : (n : ℕ) (ti : Bool) (rs : List Row) → sound n ti rs ≡ true → highest_of rs ≤ 62
unfolding highest_of
highest_low n ti rs s = highest_from n ti 0 rs s (omega arith)
