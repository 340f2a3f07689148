-- Opening values, and what they are asked for by.
-- Assumes nothing.
use Rattle.std.proofs.Common.{◌≡◌, ℕ, ◌≤◌, Bool, true, false, cond, ◌&&◌, leb, Ok, Err, Result, refl, ap, ◌∙◌, sym, arith}
use Rattle.std.proofs.lemmas.Bool.Decides.{nat_tests}
use Rattle.frames.specs.declared.refusal.Refusal.{Refusal}
use Rattle.frames.specs.declared.refusal.Refusal.TheVariants.{Dimensions}
use Rattle.frames.specs.declared.data_type.DataType.{DataType}
use Rattle.frames.specs.declared.data_type.DataType.TheVariants.{Checked, Plain}
use Rattle.frames.specs.DataTypes.{data_number, data_type_in}
use Rattle.sets.specs.Openings.{Values, typed, opening_in}

-- a data PDU type, read by its number
pub type_back : (t : DataType) → data_type_in (data_number t) ≡ Ok t
type_back Checked = refl
type_back Plain = refl

-- opening values that are in range are those asked for
pub opening_back : (n : ℕ) (ti : Bool) (t : DataType) → 1 ≤ n → n ≤ 7 → opening_in n ti (data_number t) ≡ Ok (record { subflows = n; timed = ti; data_type = t })
opening_back n ti t a b =
    let r : (leb 1 n && leb n 7) ≡ true = grind (arith, nat_tests) in
    rw (r, type_back t)

typed_same : (n : ℕ) (ti : Bool) (x : Result DataType Refusal) (o : Values) → typed n ti x ≡ Ok o → (o.subflows ≡ n) × (o.timed ≡ ti)
typed_same n ti (Ok t) o h = (cc, cc)
typed_same n ti (Err e) o h = (cc, cc)

ranged : (b : Bool) (x : Result Values Refusal) (o : Values) → cond b x (Err Dimensions) ≡ Ok o → x ≡ Ok o
ranged true x o h = h
ranged false x o h = cc

pub opening_same : (n : ℕ) (ti : Bool) (type : ℕ) (o : Values) → opening_in n ti type ≡ Ok o → (o.subflows ≡ n) × (o.timed ≡ ti)
opening_same n ti type o h = typed_same n ti (data_type_in type) o (ranged (leb 1 n && leb n 7) _ o h)

-- values asked for by a type's number have that type
pub opening_typed : (n : ℕ) (ti : Bool) (t : DataType) (o : Values) → opening_in n ti (data_number t) ≡ Ok o → record { subflows = n; timed = ti; data_type = t } ≡ o
opening_typed n ti t o h =
    let r = ranged (leb 1 n && leb n 7) (typed n ti (data_type_in (data_number t))) o h in
    let k : typed n ti (Ok t) ≡ Ok o = sym (ap (typed n ti) (type_back t)) ∙ r in
    cc
