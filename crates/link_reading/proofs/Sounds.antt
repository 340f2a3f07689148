-- Sound rows, and that they can be added one by one.
-- Assumes nothing.
use Rattle.std.proofs.Common.{◌≡◌, ℕ, ◌+◌, ◌≤◌, Bool, true, false, not, eqb, List, [], ◌∷◌, ◌++◌, length, take, drop, Some, sym, refl, ap, ◌∙◌, arith}
use Rattle.std.proofs.lemmas.List.{append_assoc, append-nil, length-append, take-append-drop, drop-take, take-take}
use Rattle.std.proofs.lemmas.Bool.{and_parts, and_from, eq-eqb, ne_eqb}
use Rattle.std.proofs.lemmas.Bool.Decides.{nat_tests}
use Rattle.sets.specs.Rows.{Row, fits, fresh, sound}
use Rattle.sets.proofs.Fitting.{fit, ipti_small}
use Rattle.sets.proofs.Adds.{admitted_none}
use Rattle.sets.proofs.Parts.{two}
use Rattle.link_reading.specs.Adding.{add_all}
use Rattle.link_reading.proofs.Backs.{Good, Timely, Halved}
use Rattle.link_reading.proofs.Holds.{all_more}

pub good : (n : ℕ) (ti : Bool) (rs : List Row) → sound n ti rs ≡ true → Good n rs
good n ti [] h = tt
good n ti (r ∷ rs) h =
    let t = two n ti r rs h in
    let f = fit n ti r t.fits in
    (omega (arith, f.rfci), f.count, good n ti rs t.sound)

pub timely : (n : ℕ) (ti : Bool) (rs : List Row) → sound n ti rs ≡ true → Timely rs
timely n ti [] h = tt
timely n ti (r ∷ rs) h =
    let t = two n ti r rs h in
    (omega (arith, ipti_small n ti r (fit n ti r t.fits)), timely n ti rs t.sound)

-- without TI every IPTI is 0
pub untimed : (n : ℕ) (rs : List Row) → sound n false rs ≡ true → Halved rs []
untimed n [] h = tt
untimed n (r ∷ rs) h =
    let t = two n false r rs h in
    let z : r.ipti ≤ 0 = (fit n false r t.fits).ipti in
    (omega arith, untimed n rs t.sound)

-- a row among sound rows
fresh_among : (m : ℕ) (xs : List Row) (r : Row) (rs : List Row) → fresh m (xs ++ r ∷ rs) ≡ true → r.rfci ≡ m → ⊥
unfolding fresh
fresh_among m [] r rs h e =
    let p = (and_parts (not (eqb r.rfci m)) (fresh m rs) h).0 in
    let z = eq-eqb r.rfci m e in
    grind (arith, nat_tests)
fresh_among m (x ∷ xs) r rs h e = fresh_among m xs r rs (and_parts (not (eqb x.rfci m)) (fresh m (xs ++ r ∷ rs)) h).1 e

among : (n : ℕ) (ti : Bool) (xs : List Row) (r : Row) (rs : List Row) → sound n ti (xs ++ r ∷ rs) ≡ true → (fits n ti r ≡ true) × (fresh r.rfci xs ≡ true)
unfolding fresh
among n ti [] r rs h = ((two n ti r rs h).fits, refl)
among n ti (x ∷ xs) r rs h =
    let t = two n ti x (xs ++ r ∷ rs) h in
    let i = among n ti xs r rs t.sound in
    let ne : x.rfci ≡ r.rfci → ⊥ = λ e. fresh_among x.rfci xs r rs t.fresh (sym e) in
    (i.0, and_from (not (eqb x.rfci r.rfci)) (fresh r.rfci xs) (ap not (ne_eqb x.rfci r.rfci ne)) i.1)

pub all_added : (n : ℕ) (ti : Bool) (held rs : List Row) → sound n ti (held ++ rs) ≡ true → length (held ++ rs) ≤ 32 → add_all n ti held rs ≡ Some (held ++ rs)
unfolding add_all
all_added n ti held [] s l = ap Some (sym (append-nil held))
all_added n ti held (r ∷ rs) s l =
    let a = among n ti held r rs s in
    let f = fit n ti r a.0 in
    let x = length-append held (r ∷ rs) in
    let e = admitted_none n ti held r (record { count = f.count; ipti = f.ipti; bits = f.bits; rfci = f.rfci; fresh = a.1; room = omega arith }) in
    let p = append_assoc held (r ∷ []) rs in
    let i = all_added n ti (held ++ r ∷ []) rs (rw p s) (rw p l) in
    all_more n ti held r rs e ∙ i ∙ ap Some p

pub take_on : {X : Type 0} (a b : ℕ) (xs : List X) → take a xs ++ take b (drop a xs) ≡ take (a + b) xs
take_on a b xs =
    let p = take-append-drop a (take (a + b) xs) in
    let q = drop-take a b xs in
    let r = take-take a (a + b) xs (omega arith) in
    cc
