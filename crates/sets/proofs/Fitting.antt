-- The rows of a set, one by one.
-- Assumes nothing.
use Rattle.std.proofs.Common.{◌≡◌, ℕ, zero, suc, ◌<◌, ◌≤◌, Bool, true, false, cond, ◌&&◌, List, [], ◌∷◌, length, get_or, sym, subst, arith}
use Rattle.std.proofs.lemmas.Bool.{and_parts}
use Rattle.std.proofs.lemmas.Bool.Decides.{nat_tests}
use Rattle.sets.specs.Rows.{Row, bits, fresh, fits, sound}

-- what fits says
pub record Fit (n : ℕ) (ti : Bool) (r : Row) : Type 0 where
  pub count : length r.sizes ≡ n
  pub ipti : r.ipti ≤ cond ti 15 0
  pub bits : bits r.sizes ≤ 4000
  pub rfci : r.rfci ≤ 62

pub fit : (n : ℕ) (ti : Bool) (r : Row) → fits n ti r ≡ true → Fit n ti r
unfolding fits
fit n ti r h = record { count = grind (arith, nat_tests); ipti = grind (arith, nat_tests); bits = grind (arith, nat_tests); rfci = grind (arith, nat_tests) }

-- a row of sound rows
pub fit_at : (n : ℕ) (ti : Bool) (rs : List Row) (i : ℕ) (d : Row) → sound n ti rs ≡ true → i < length rs → Fit n ti (get_or rs i d)
unfolding sound
fit_at n ti [] i d s h = absurd (omega arith)
fit_at n ti (r ∷ rs) zero d s h = fit n ti r (and_parts (fits n ti r) (fresh r.rfci rs && sound n ti rs) s).0
fit_at n ti (r ∷ rs) (suc i) d s h =
    let p = and_parts (fits n ti r) (fresh r.rfci rs && sound n ti rs) s in
    fit_at n ti rs i d (and_parts (fresh r.rfci rs) (sound n ti rs) p.1).1 (omega arith)

-- a row that was read
pub fit_read : (n : ℕ) (ti : Bool) (rs : List Row) (i : ℕ) (r : Row) → r ≡ get_or rs i r → sound n ti rs ≡ true → i < length rs → Fit n ti r
fit_read n ti rs i r e s h = subst (Fit n ti) (sym e) (fit_at n ti rs i r s h)

pub ipti_small : (n : ℕ) (ti : Bool) (r : Row) → Fit n ti r → r.ipti ≤ 15
ipti_small n true r f = f.ipti
ipti_small n false r f = let h : r.ipti ≤ 0 = f.ipti in omega arith
