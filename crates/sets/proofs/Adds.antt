-- The ways of adding a row, and what holds of the rows after.
-- Assumes nothing.
use Rattle.std.proofs.Common.{◌≡◌, ℕ, ◌<◌, ◌≤◌, Bool, true, cond, not, ◌&&◌, eqb, List, [], ◌∷◌, ◌++◌, length, Ok, sym, arith}
use Rattle.std.proofs.lemmas.Bool.{eq-eqb, ne_eqb, and_parts, and_from}
use Rattle.std.proofs.lemmas.Bool.Decides.{nat_tests}
use Rattle.sets.specs.Rows.{Row, bits, fresh, fits, sound, free}
use Rattle.sets.specs.Drafts.{admitted}

-- what is known of a row that is admitted
pub record Admission (n : ℕ) (ti : Bool) (rs : List Row) (r : Row) : Type 0 where
  pub count : length r.sizes ≡ n
  pub ipti : r.ipti ≤ cond ti 15 0
  pub bits : bits r.sizes ≤ 4000
  pub rfci : r.rfci ≤ 62
  pub fresh : fresh r.rfci rs ≡ true
  pub room : length rs < 32

pub admission : (n : ℕ) (ti : Bool) (rs : List Row) (r : Row) → Ok tt ≡ admitted n ti rs r → Admission n ti rs r
unfolding admitted
admission n ti rs r h =
    record {
      count = grind (arith, nat_tests);
      ipti = grind (arith, nat_tests);
      bits = grind (arith, nat_tests);
      rfci = grind (arith, nat_tests);
      fresh = grind (arith, nat_tests);
      room = grind (arith, nat_tests);
    }

pub admitted_none : (n : ℕ) (ti : Bool) (rs : List Row) (r : Row) → Admission n ti rs r → admitted n ti rs r ≡ Ok tt
unfolding admitted
admitted_none n ti rs r a =
    let c = a.count in
    let i = a.ipti in
    let b = a.bits in
    let f = a.rfci in
    let g = a.fresh in
    let l = a.room in
    grind (arith, nat_tests)

-- sound rows, and one more that is fresh and fits
fresh_push : (n : ℕ) (rs : List Row) (r : Row) → fresh n rs ≡ true → (r.rfci ≡ n → ⊥) → fresh n (rs ++ r ∷ []) ≡ true
unfolding fresh
fresh_push n [] r h k = rw (ne_eqb r.rfci n k)
fresh_push n (x ∷ rs) r h k =
    let p = and_parts (not (eqb x.rfci n)) (fresh n rs) h in
    and_from (not (eqb x.rfci n)) (fresh n (rs ++ r ∷ [])) p.0 (fresh_push n rs r p.1 k)

pub sound_push : (n : ℕ) (ti : Bool) (rs : List Row) (r : Row) → sound n ti rs ≡ true → fits n ti r ≡ true → fresh r.rfci rs ≡ true → sound n ti (rs ++ r ∷ []) ≡ true
unfolding sound fresh
sound_push n ti [] r h f k = rw f
sound_push n ti (x ∷ rs) r h f k =
    let p = and_parts (fits n ti x) (fresh x.rfci rs && sound n ti rs) h in
    let q = and_parts (fresh x.rfci rs) (sound n ti rs) p.1 in
    let s = and_parts (not (eqb x.rfci r.rfci)) (fresh r.rfci rs) k in
    let ne : r.rfci ≡ x.rfci → ⊥ = λ e. let z : eqb x.rfci r.rfci ≡ true = eq-eqb x.rfci r.rfci (sym e) in grind (arith, nat_tests) in
    and_from (fits n ti x) (fresh x.rfci (rs ++ r ∷ []) && sound n ti (rs ++ r ∷ [])) p.0
    (and_from (fresh x.rfci (rs ++ r ∷ [])) (sound n ti (rs ++ r ∷ [])) (fresh_push x.rfci rs r q.0 ne) (sound_push n ti rs r q.1 f s.1))

pub fits_from : (n : ℕ) (ti : Bool) (rs : List Row) (r : Row) → Admission n ti rs r → fits n ti r ≡ true
unfolding fits
fits_from n ti rs r a =
    let c = a.count in
    let i = a.ipti in
    let b = a.bits in
    let f = a.rfci in
    grind (arith, nat_tests)

pub free_push : (rs : List Row) (r : Row) → free rs ≡ true → r.allowed ≡ true → free (rs ++ r ∷ []) ≡ true
unfolding free
free_push [] r h a = rw a
free_push (x ∷ rs) r h a =
    let p = and_parts x.allowed (free rs) h in and_from x.allowed (free (rs ++ r ∷ [])) p.0 (free_push rs r p.1 a)
