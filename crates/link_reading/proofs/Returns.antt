-- The links of a closed set are read back.
-- Assumes nothing.
use Rattle.std.proofs.Common.{◌≡◌, ℕ, zero, suc, ◌+◌, ◌*◌, ◌/◌, ◌<◌, ◌≤◌, Bool, true, false, cond, not, ltb, ◌⊎◌, List, [], ◌∷◌, ◌++◌, length, take, drop, Some, Ok, sym, refl, ap, ◌∙◌, inl, inr, add-zero, one-add, arith}
use Rattle.std.proofs.lemmas.List.{append_assoc, length-append, length-take, length-drop, drop_at, take_all}
use Rattle.std.proofs.lemmas.Bool.{le-ltb, eq-eqb, ne_eqb}
use Rattle.std.proofs.lemmas.Bool.Decides.{nat_tests}
use Rattle.frames.specs.declared.data_type.DataType.{DataType}
use Rattle.frames.specs.DataTypes.{data_number}
use Rattle.sets.specs.Rows.{Row, sound, free, Sound}
use Rattle.sets.proofs.Opens.{opening_back}
use Rattle.sets.proofs.Parts.{sound-take, sound-drop, free-take, free-drop}
use Rattle.link_reading.specs.declared.fields.Extent.{Extent}
use Rattle.link_reading.specs.declared.fields.Fields.{Fields}
use Rattle.link_building.specs.Wire.{combination, combinations, nibbles, payload, part, link, links_of}
use Rattle.link_reading.specs.Layout.{halves, halves_from, rows_in, rows_of, fields_of, subflows_of, timed_of, chain_of, ipti_octets}
use Rattle.link_reading.specs.Adding.{add_all}
use Rattle.link_reading.specs.Links.{Links}
use Rattle.link_reading.specs.Holding.{follows, base, judged_by, judged}
use Rattle.link_reading.specs.Laws.{read_all, whole, ReadsBack}
use Rattle.link_reading.proofs.Whole.{fields_full}
use Rattle.link_building.proofs.Lengths.{nibbles-length}
use Rattle.link_reading.proofs.Backs.{Good, Halved, extent_back, rows_back, halves_back}
use Rattle.link_reading.proofs.Sounds.{good, timely, untimed, all_added, take_on}
use Rattle.link_reading.proofs.Judges.{examined-sound, ruled-rows}

-- the first octet of a payload
abbrev opener : ℕ → Bool → Bool → ℕ
opener n ti ch = cond ti 16 0 + n * 2 + cond ch 1 0

opener_n : (n : ℕ) (ti ch : Bool) → n ≤ 7 → n ≡ subflows_of (opener n ti ch)
opener_n n true true h = omega arith
opener_n n true false h = omega arith
opener_n n false true h = omega arith
opener_n n false false h = omega arith

opener_ti : (n : ℕ) (ti ch : Bool) → n ≤ 7 → ti ≡ timed_of (opener n ti ch)
opener_ti n true true h = sym (eq-eqb _ 1 (omega arith))
opener_ti n true false h = sym (eq-eqb _ 1 (omega arith))
opener_ti n false true h = sym (ne_eqb _ 1 (λ e. omega arith))
opener_ti n false false h = sym (ne_eqb _ 1 (λ e. omega arith))

opener_ch : (n : ℕ) (ti ch : Bool) → n ≤ 7 → ch ≡ chain_of (opener n ti ch)
opener_ch n true true h = sym (eq-eqb _ 1 (omega arith))
opener_ch n true false h = sym (ne_eqb _ 1 (λ e. omega arith))
opener_ch n false true h = sym (eq-eqb _ 1 (omega arith))
opener_ch n false false h = sym (ne_eqb _ 1 (λ e. omega arith))

-- the IPTI octets
abbrev iptis : Bool → List Row → List ℕ
iptis ti rs = cond ti (nibbles rs) []

iptis-length : (ti : Bool) (rs : List Row) → ipti_octets ti (length rs) ≡ length (iptis ti rs)
iptis-length true rs = sym (nibbles-length rs)
iptis-length false rs = refl

-- what is read of a payload that was written
abbrev fields_for : ℕ → Bool → ℕ → Bool → List Row → ℕ → Fields
fields_for n ti type ch rs over =
    record { subflows = n; timed = ti; chain = ch; count = length rs; place = 1 + length (combinations rs); versions = 1; kind = type; over = over }

combinations_long : (n : ℕ) (rs : List Row) → Good n rs → length rs ≤ length (combinations rs)
unfolding combinations combination
combinations_long n [] g = omega arith
combinations_long n (r ∷ rs) g =
    let i = combinations_long n rs g.2 in
    simp length-append (omega arith)

-- a payload and a spare extension, in parts
spaced : (n : ℕ) (ti : Bool) (type : ℕ) (ch : Bool) (rs : List Row) (sp : List ℕ) → payload n ti type ch rs ++ sp ≡ opener n ti ch ∷ (combinations rs ++ (iptis ti rs ++ (0 ∷ 1 ∷ type * 16 ∷ sp)))
unfolding payload
spaced n ti type ch rs sp =
    let C = combinations rs in
    let I = iptis ti rs in
    let tail : List ℕ = 0 ∷ 1 ∷ type * 16 ∷ [] in
    ap (λ xs. opener n ti ch ∷ xs) (append_assoc C (I ++ tail) sp ∙ ap (λ xs. C ++ xs) (append_assoc I tail sp))

pub fields_back : (n : ℕ) (ti : Bool) (type : ℕ) (ch : Bool) (rs : List Row) (sp : List ℕ) → n ≤ 7 → 1 ≤ length rs → Good n rs → fields_of (payload n ti type ch rs ++ sp) ≡ Some (fields_for n ti type ch rs (length sp))
fields_back n ti type ch rs sp h s g =
    let C = combinations rs in
    let I = iptis ti rs in
    let tail : List ℕ = 0 ∷ 1 ∷ type * 16 ∷ sp in
    let t = I ++ tail in
    let os = opener n ti ch ∷ (C ++ t) in
    let e : Extent = record { count = length rs; octets = length C } in
    let lt = length-append I tail in
    let lr = length-append C t in
    let cl = combinations_long n rs g in
    let x = extent_back (length (C ++ t)) n rs t s (omega arith) g in
    let d : t ≡ drop (length C) (C ++ t) = sym (drop_at C t (length C) refl) in
    let gt : tail ≡ drop (length I) t = sym (drop_at I tail (length I) refl) in
    let f = fields_full os (C ++ t) t n ti ch (length I) e tail (record { some = omega arith; rest = refl; subflows = opener_n n ti ch h; timed = opener_ti n ti ch h }) d (opener_ch n ti ch h) x (sym (iptis-length ti rs)) gt (omega arith) in
    let q : type * 16 / 16 ≡ type = omega arith in
    ap fields_of (spaced n ti type ch rs sp) ∙ f ∙ rw q

halved : (n : ℕ) (ti : Bool) (rs : List Row) (rest : List ℕ) → sound n ti rs ≡ true → Halved rs (cond ti (halves (iptis ti rs ++ rest)) [])
halved n true rs rest s = halves_back rs rest (timely n true rs s)
halved n false rs rest s = untimed n rs s

pub rows_of_back : (n : ℕ) (ti : Bool) (type : ℕ) (ch : Bool) (rs : List Row) (sp : List ℕ) → sound n ti rs ≡ true → free rs ≡ true → rows_of (fields_for n ti type ch rs (length sp)) (payload n ti type ch rs ++ sp) ≡ rs
rows_of_back n ti type ch rs sp s al =
    let C = combinations rs in
    let I = iptis ti rs in
    let tail : List ℕ = 0 ∷ 1 ∷ type * 16 ∷ sp in
    let os = opener n ti ch ∷ (C ++ (I ++ tail)) in
    let d : drop (1 + length C) os ≡ I ++ tail = ap (λ k. drop k os) (one-add (length C)) ∙ drop_at C (I ++ tail) (length C) refl in
    let hs = cond ti (halves (I ++ tail)) [] in
    let e : halves_from ti (1 + length C) os ≡ hs = ap (λ xs. cond ti (halves xs) []) d in
    ap (rows_of (fields_for n ti type ch rs (length sp))) (spaced n ti type ch rs sp)
    ∙ ap (rows_in (length rs) n (C ++ (I ++ tail))) e ∙ rows_back n rs (I ++ tail) hs (good n ti rs s) al (halved n ti rs tail s)

-- what is held after k links of a set
abbrev state : ℕ → Bool → DataType → List Row → ℕ → Links
state n ti type rs k =
    record {
      contents = record { opening = record { subflows = n; timed = ti; data_type = type }; combinations = take (8 * k) rs };
      versions = 1;
      links = k;
      complete = not (ltb (8 * k) (length rs));
    }

-- link k, where the k links before it are held
follows-link : (h : Links) (n : ℕ) (ti : Bool) (type : DataType) (rs ps : List Row) (k over : ℕ) → length rs ≤ 32 → 8 * k < length rs → (k ≡ 0) ⊎ (h ≡ state n ti type rs k)
    → follows h k (fields_for n ti (data_number type) (ltb (8 * k + 8) (length rs)) ps over) ≡ true
unfolding follows
follows-link h n ti type rs ps k over l s (inl z) = grind (arith, nat_tests)
follows-link h n ti type rs ps k over l s (inr e) = rw e (grind (arith, nat_tests))

base-link : (h : Links) (n : ℕ) (ti : Bool) (type : DataType) (rs : List Row) (k : ℕ) → (k ≡ 0) ⊎ (h ≡ state n ti type rs k) → base h k ≡ take (8 * k) rs
base-link h n ti type rs k (inl z) = rw z
base-link h n ti type rs zero (inr e) = refl
base-link h n ti type rs (suc k) (inr e) = rw (e, ne_eqb (suc k) 0 (λ z. omega arith))

pub link_back : (n : ℕ) (ti : Bool) (type : DataType) (rs : List Row) → Sound n ti rs → free rs ≡ true → (k : ℕ) (sp : List ℕ) → length sp ≤ 32 → 8 * k < length rs → (h : Links) → (k ≡ 0) ⊎ (h ≡ state n ti type rs k)
    → judged h k (link k n ti (data_number type) rs ++ sp) ≡ Ok (state n ti type rs (k + 1))
link_back n ti type rs c al k sp few s h w =
    let ch = ltb (8 * k + 8) (length rs) in
    let P = part (8 * k) 8 rs in
    let f = fields_for n ti (data_number type) ch P (length sp) in
    let os = payload n ti (data_number type) ch P ++ sp in
    let lp : 1 ≤ length P = simp (length-take, length-drop) (omega arith) in
    let sq : sound n ti P ≡ true = sound-take n ti 8 (drop (8 * k) rs) (sound-drop n ti (8 * k) rs c.sound) in
    let ap8 : free P ≡ true = free-take 8 (drop (8 * k) rs) (free-drop (8 * k) rs al) in
    let fb = fields_back n ti (data_number type) ch P sp c.few lp (good n ti P sq) in
    let rb = rows_of_back n ti (data_number type) ch P sp sq ap8 in
    let join : take (8 * k) rs ++ P ≡ take (8 * k + 8) rs = take_on (8 * k) 8 rs in
    let sj : sound n ti (take (8 * k) rs ++ P) ≡ true = ap (sound n ti) join ∙ sound-take n ti (8 * k + 8) rs c.sound in
    let lj : length (take (8 * k) rs ++ P) ≤ 32 = rw join (simp length-take (omega (arith, c.room))) in
    let aa = all_added n ti (take (8 * k) rs) P sj lj in
    let b = base-link h n ti type rs k w in
    let x : Some (take (8 * k + 8) rs) ≡ add_all n ti (base h k) (rows_of f os) = sym (ap (λ xs. add_all n ti xs (rows_of f os)) b ∙ ap (add_all n ti (take (8 * k) rs)) rb ∙ aa ∙ ap Some join) in
    let o = opening_back n ti type c.some c.few in
    let ex = examined-sound os f fb few (λ e. omega arith) in
    let j = ruled-rows h k os f _ (Some (take (8 * k + 8) rs)) o (follows-link h n ti type rs P k (length sp) c.room s w) x in
    let z : 8 * (k + 1) ≡ 8 * k + 8 = omega arith in
    ap (judged_by h k os) ex ∙ j ∙ rw z

read_more : (c k : ℕ) (p : ℕ → List ℕ) (h g : Links) → judged h k (p k) ≡ Ok g → read_all (suc c) k p h ≡ read_all c (k + 1) p g
unfolding read_all
read_more c k p h g e = rw (e, read_all)

read_none : (k : ℕ) (p : ℕ → List ℕ) (h : Links) → read_all zero k p h ≡ Ok h
unfolding read_all
read_none k p h = refl

state-whole : (n : ℕ) (ti : Bool) (type : DataType) (rs : List Row) (k : ℕ) → k ≡ links_of rs → state n ti type rs k ≡ whole n ti type rs
state-whole n ti type rs k e =
    let a : take (8 * k) rs ≡ rs = take_all (8 * k) rs (omega arith) in
    let b : ltb (8 * k) (length rs) ≡ false = le-ltb (8 * k) (length rs) (omega arith) in
    rw (a, b, e)

from_link : (n : ℕ) (ti : Bool) (type : DataType) (rs : List Row) → Sound n ti rs → free rs ≡ true → (spare : ℕ → List ℕ) → ((j : ℕ) → length (spare j) ≤ 32) → (c k : ℕ) → c + k ≡ links_of rs → (h : Links) → (k ≡ 0) ⊎ (h ≡ state n ti type rs k)
    → read_all c k (λ j. link j n ti (data_number type) rs ++ spare j) h ≡ Ok (whole n ti type rs)
from_link n ti type rs d al spare few zero k e h (inl z) = absurd (omega (arith, d.rows))
from_link n ti type rs d al spare few zero k e h (inr w) = read_none k (λ j. link j n ti (data_number type) rs ++ spare j) h ∙ ap Ok (w ∙ state-whole n ti type rs k (omega arith))
from_link n ti type rs d al spare few (suc c) k e h w =
    let s : 8 * k < length rs = omega arith in
    let j = link_back n ti type rs d al k (spare k) (few k) s h w in
    read_more c k (λ j. link j n ti (data_number type) rs ++ spare j) h (state n ti type rs (k + 1)) j ∙ from_link n ti type rs d al spare few c (k + 1) (omega arith) (state n ti type rs (k + 1)) (inr refl)

pub reads_back : ReadsBack
reads_back n ti type rs d al spare few h = from_link n ti type rs d al spare few (links_of rs) 0 (add-zero (links_of rs)) h (inl refl)
