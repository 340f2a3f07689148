-- The one row with an RFCI, marked.
-- Assumes nothing.
use Rattle.std.proofs.Common.{◌≡◌, ℕ, zero, suc, ◌+◌, ◌<◌, ◌≤◌, Bool, true, false, cond, not, ◌&&◌, eqb, List, [], ◌∷◌, length, get_or, Some, None, sym, refl, ap, ◌∙◌, ⊎_elim, arith}
use Rattle.std.specs.List.{position_or_len}
use Rattle.std.proofs.lemmas.Bool.{eq-eqb, ne_eqb, and_parts, cases_eq}
use Rattle.std.proofs.lemmas.Bool.Decides.{nat_tests}
use Rattle.std.proofs.lemmas.List.Quantifiers.{position-Some}
use Rattle.sets.specs.Rows.{Row, allowed_as, marked_at, fresh, fits, sound}
use Rattle.set_in_force.specs.Looks.{index_of}
use Rattle.sets.specs.declared.table.Table.{Table}
use Rattle.sets.specs.Openings.{Values}
use Rattle.sets.specs.Contents.{Contents}
use Rattle.sets.specs.Tables.{rows, contents, SoundTable}
use Rattle.set_in_force.specs.Marks.{marked, marked_in}

-- rows without the RFCI stay
marked_none : (n : ℕ) (b : Bool) (rs : List Row) → fresh n rs ≡ true → marked n b rs ≡ rs
unfolding marked fresh
marked_none n b [] h = refl
marked_none n b (r ∷ rs) h =
    let p = and_parts (not (eqb r.rfci n)) (fresh n rs) h in
    let f : eqb r.rfci n ≡ false = grind (arith, nat_tests) in
    let a : cond (eqb r.rfci n) (allowed_as b r) r ≡ r = rw f in
    let e = marked_none n b rs p.1 in
    cc

fresh_at : (m : ℕ) (rs : List Row) (i : ℕ) (d : Row) → fresh m rs ≡ true → i < length rs → eqb (get_or rs i d).rfci m ≡ false
unfolding fresh
fresh_at m [] i d h l = absurd (omega arith)
fresh_at m (r ∷ rs) zero d h l = let p = and_parts (not (eqb r.rfci m)) (fresh m rs) h in grind (arith, nat_tests)
fresh_at m (r ∷ rs) (suc i) d h l = fresh_at m rs i d (and_parts (not (eqb r.rfci m)) (fresh m rs) h).1 (omega arith)

-- a set has no more than one row with an RFCI, so that marking it in its place marks all
marked_one : (m n : ℕ) (ti b : Bool) (rs : List Row) (i : ℕ) (d : Row) → sound m ti rs ≡ true → i < length rs → (get_or rs i d).rfci ≡ n → marked_at i b rs ≡ marked n b rs
unfolding sound marked marked_at
marked_one m n ti b [] i d s l e = absurd (omega arith)
marked_one m n ti b (r ∷ rs) zero d s l e =
    let p = and_parts (fits m ti r) (fresh r.rfci rs && sound m ti rs) s in
    let q = and_parts (fresh r.rfci rs) (sound m ti rs) p.1 in
    let g = marked_none n b rs (ap (λ k. fresh k rs) (sym e) ∙ q.0) in
    let a : cond (eqb r.rfci n) (allowed_as b r) r ≡ allowed_as b r = rw (eq-eqb r.rfci n e) in
    cc
marked_one m n ti b (r ∷ rs) (suc i) d s l e =
    let p = and_parts (fits m ti r) (fresh r.rfci rs && sound m ti rs) s in
    let q = and_parts (fresh r.rfci rs) (sound m ti rs) p.1 in
    let f = fresh_at r.rfci rs i d q.0 (omega arith) in
    let ne : eqb r.rfci n ≡ false = ne_eqb r.rfci n (λ k. let z : (get_or rs i d).rfci ≡ r.rfci = e ∙ sym k in grind (arith, nat_tests)) in
    let a : cond (eqb r.rfci n) (allowed_as b r) r ≡ r = rw ne in
    let g = marked_one m n ti b rs i d q.1 (omega arith) e in
    cc

marked_found : (m n : ℕ) (ti b : Bool) (rs : List Row) (i : ℕ) → sound m ti rs ≡ true → Some i ≡ index_of n rs → marked_at i b rs ≡ marked n b rs
marked_found m n ti b rs i s e =
    let d : Row = record { rfci = 0; ipti = 0; sizes = []; allowed = b } in
    let p = position-Some (λ r. eqb r.rfci n) rs i d (sym e) in
    let is : (get_or rs i d).rfci ≡ n = grind (arith, nat_tests) in
    marked_one m n ti b rs i d s p.0 is

-- where no row has the RFCI, all stay
past : (n : ℕ) (b : Bool) (rs : List Row) → length rs ≤ position_or_len (λ (r : Row). eqb r.rfci n) rs → rs ≡ marked n b rs
unfolding marked
past n b [] h = refl
past n b (r ∷ rs) h =
    ⊎_elim
    (λ (en : r.rfci ≡ n). let t = eq-eqb r.rfci n en in let z : length (r ∷ rs) ≤ 0 = rw t at h in absurd (omega arith))
    (λ (ne : r.rfci ≡ n → ⊥).
    let f = ne_eqb r.rfci n ne in
    let z : length (r ∷ rs) ≤ 1 + position_or_len (λ (r : Row). eqb r.rfci n) rs = rw f at h in
    let a : cond (eqb r.rfci n) (allowed_as b r) r ≡ r = rw f in
    let g = past n b rs (omega arith) in
    cc)
    (cases_eq r.rfci n)

marked_past : (n : ℕ) (b : Bool) (rs : List Row) → None ≡ index_of n rs → rs ≡ marked n b rs
marked_past n b rs e =
    let l : length rs ≤ position_or_len (λ (r : Row). eqb r.rfci n) rs = grind (arith, nat_tests) in
    past n b rs l

-- the same of a table that was marked in one place, or in none, and of the set that it says
pub table_marked : (t : Table) (o : Values) (us rs : List Row) (c : Contents) (n : ℕ) (b : Bool) (i : ℕ) → us ≡ marked_at i b (rows t) → o ≡ t.opening → Some i ≡ index_of n rs → rs ≡ rows t → SoundTable t → contents t ≡ c → record { opening = o; combinations = us } ≡ marked_in n b c
table_marked t o us rs c n b i r p e f s v =
    let x : Some i ≡ index_of n (rows t) = e ∙ ap (index_of n) f in
    let m : us ≡ marked n b (rows t) = r ∙ marked_found _ n _ b (rows t) i s.sound x in
    let k : record { opening = o; combinations = us } ≡ marked_in n b (contents t) = cc in
    k ∙ ap (marked_in n b) v

pub table_past : (t : Table) (n : ℕ) (b : Bool) → None ≡ index_of n (rows t) → contents t ≡ marked_in n b (contents t)
table_past t n b e =
    let m : rows t ≡ marked n b (rows t) = marked_past n b (rows t) e in
    cc
