-- The ways of judging a link.
-- Assumes nothing.
use Rattle.std.proofs.Common.{◌≡◌, ℕ, ◌%◌, ◌≤◌, Bool, true, false, cond, eqb, ltb, List, Some, None, Ok, Err, Option, Result, sym, refl, ap, ◌∙◌, arith}
use Rattle.std.proofs.lemmas.Bool.{le-ltb, ne_eqb}
use Rattle.std.proofs.lemmas.Bool.Decides.{nat_tests}
use Rattle.frames.specs.declared.refusal.Refusal.{Refusal}
use Rattle.frames.specs.declared.refusal.Refusal.TheVariants.{UnexpectedValue, ModeVersion}
use Rattle.sets.specs.Rows.{Row}
use Rattle.frames.specs.DataTypes.{data_number}
use Rattle.sets.specs.Openings.{Values, opening_in}
use Rattle.sets.proofs.Opens.{opening_typed}
use Rattle.link_reading.specs.declared.fields.Fields.{Fields}
use Rattle.link_reading.specs.Layout.{fields_of, rows_of}
use Rattle.std.specs.Result.{result_or}
use Rattle.link_reading.specs.Adding.{add_all, kept}
use Rattle.link_reading.specs.Links.{Links}
use Rattle.link_reading.specs.Holding.{follows, base, held_with, examined_by, examined, ruled_with, ruled}

-- what is examined was read
examined_some : (x : Option Fields) (f : Fields) → Ok f ≡ examined_by x → x ≡ Some f
examined_some None f h = let z : ◌≡◌ {A = ℕ} 0 1 = cc in absurd (omega arith)
examined_some (Some g) f h = picked (ltb 32 g.over) (eqb (g.versions % 2) 0) g f h
  where
    picked : (a b : Bool) (g f : Fields) → Ok f ≡ cond a (Err UnexpectedValue) (cond b (Err ModeVersion) (Ok g)) → Some g ≡ Some f
    picked true b g f h = let z : ◌≡◌ {A = ℕ} 0 1 = cc in absurd (omega arith)
    picked false true g f h = let z : ◌≡◌ {A = ℕ} 0 1 = cc in absurd (omega arith)
    picked false false g f h = cc

pub was_read : (os : List ℕ) (f : Fields) → Ok f ≡ examined os → fields_of os ≡ Some f
unfolding examined
was_read os f h = examined_some (fields_of os) f h

pub examined-sound : (os : List ℕ) (f : Fields) → fields_of os ≡ Some f → f.over ≤ 32 → (f.versions % 2 ≡ 0 → ⊥) → examined os ≡ Ok f
unfolding examined
examined-sound os f e o v = ap examined_by e ∙ rw (le-ltb 32 f.over o, ne_eqb (f.versions % 2) 0 v)

-- the opening values that fields ask for
abbrev pub asked : Fields → Result Values Refusal
asked f = opening_in f.subflows f.timed f.kind

pub ruled_range : (h : Links) (k : ℕ) (os : List ℕ) (f : Fields) (e : Refusal) → asked f ≡ Err e → ruled h k os f ≡ Err UnexpectedValue
unfolding ruled
ruled_range h k os f e r = ap (ruled_with h k os f) r

pub ruled_alone : (h : Links) (k : ℕ) (os : List ℕ) (f : Fields) (o : Values) → asked f ≡ Ok o → follows h k f ≡ false → ruled h k os f ≡ Err UnexpectedValue
unfolding ruled
ruled_alone h k os f o r w = ap (ruled_with h k os f) r ∙ rw w

pub ruled-rows : (h : Links) (k : ℕ) (os : List ℕ) (f : Fields) (o : Values) (x : Option (List Row)) → asked f ≡ Ok o → follows h k f ≡ true
    → x ≡ add_all f.subflows f.timed (base h k) (rows_of f os) → ruled h k os f ≡ held_with k f o x
unfolding ruled
ruled-rows h k os f o x r w a = ap (ruled_with h k os f) r ∙ rw w (ap (held_with k f o) (sym a))

-- opening values that are asked for, with another refusal in place of their own
pub range_refused : (x : Result Values Refusal) (e u : Refusal) → Err e ≡ result_or x (Err u) → (d : Refusal) × (x ≡ Err d) × (e ≡ u)
range_refused (Ok o) e u h = (e, cc, cc)
range_refused (Err d) e u h = (d, refl, cc)

range_allowed : (x : Result Values Refusal) (o : Values) (u : Refusal) → Ok o ≡ result_or x (Err u) → x ≡ Ok o
range_allowed (Ok p) o u h = sym h
range_allowed (Err d) o u h = cc

-- the values that it goes on with are those that were asked for
pub range_asked : (x y : Result Values Refusal) (o : Values) (u : Refusal) → x ≡ y → Ok o ≡ result_or x (Err u) → y ≡ Ok o
range_asked x y o u e h = sym e ∙ range_allowed x o u h

-- rows that are added, likewise
pub kept_refused : (x : Result Unit Refusal) (e u : Refusal) (rs : List Row) → Err e ≡ result_or x (Err u) → (None ≡ kept x rs) × (e ≡ u)
kept_refused (Ok v) e u rs h = cc
kept_refused (Err d) e u rs h = (refl, cc)

pub kept_added : (x : Result Unit Refusal) (v : Unit) (u : Refusal) (rs : List Row) → Ok v ≡ result_or x (Err u) → Some rs ≡ kept x rs
kept_added (Ok w) v u rs h = refl
kept_added (Err d) v u rs h = cc

pub follows_same : (h : Links) (k : ℕ) (f : Fields) (o : Values) → follows h k f ≡ true → (k ≡ 0 → ⊥) → asked f ≡ Ok o → h.contents.opening ≡ o
unfolding follows
follows_same h k f o e z r =
    let a : f.subflows ≡ h.contents.opening.subflows = grind (arith, nat_tests) in
    let b : f.timed ≡ h.contents.opening.timed = grind (arith, nat_tests) in
    let d : f.kind ≡ data_number h.contents.opening.data_type = grind (arith, nat_tests) in
    let s : opening_in h.contents.opening.subflows h.contents.opening.timed (data_number h.contents.opening.data_type) ≡ Ok o = rw (← a, ← b, ← d) r in
    opening_typed _ _ h.contents.opening.data_type o s
