-- The rows of a set in two parts, one before the other.
-- Assumes nothing.
use Rattle.std.proofs.Common.{◌≡◌, ℕ, zero, suc, Bool, true, not, ◌&&◌, eqb, List, [], ◌∷◌, ◌++◌, take, drop, sym, refl, ap, ◌∙◌}
use Rattle.std.proofs.lemmas.List.{take-append-drop}
use Rattle.std.proofs.lemmas.Bool.{and_parts, and_from}
use Rattle.sets.specs.Rows.{Row, fits, fresh, sound, free}

-- the first of sound rows, and the others
pub record Two (n : ℕ) (ti : Bool) (r : Row) (rs : List Row) : Type 0 where
  pub fits : fits n ti r ≡ true
  pub fresh : fresh r.rfci rs ≡ true
  pub sound : sound n ti rs ≡ true

pub two : (n : ℕ) (ti : Bool) (r : Row) (rs : List Row) → sound n ti (r ∷ rs) ≡ true → Two n ti r rs
unfolding sound
two n ti r rs h =
    let p = and_parts (fits n ti r) (fresh r.rfci rs && sound n ti rs) h in
    let q = and_parts (fresh r.rfci rs) (sound n ti rs) p.1 in
    record { fits = p.0; fresh = q.0; sound = q.1 }

two_back : (n : ℕ) (ti : Bool) (r : Row) (rs : List Row) → Two n ti r rs → sound n ti (r ∷ rs) ≡ true
unfolding sound
two_back n ti r rs t = and_from (fits n ti r) (fresh r.rfci rs && sound n ti rs) t.fits (and_from (fresh r.rfci rs) (sound n ti rs) t.fresh t.sound)

fresh_front : (m : ℕ) (xs ys : List Row) → fresh m (xs ++ ys) ≡ true → fresh m xs ≡ true
unfolding fresh
fresh_front m [] ys h = refl
fresh_front m (x ∷ xs) ys h =
    let p = and_parts (not (eqb x.rfci m)) (fresh m (xs ++ ys)) h in
    and_from (not (eqb x.rfci m)) (fresh m xs) p.0 (fresh_front m xs ys p.1)

sound_none : (n : ℕ) (ti : Bool) → sound n ti [] ≡ true
unfolding sound
sound_none n ti = refl

sound_parts : (n : ℕ) (ti : Bool) (xs ys : List Row) → sound n ti (xs ++ ys) ≡ true → (sound n ti xs ≡ true) × (sound n ti ys ≡ true)
sound_parts n ti [] ys h = (sound_none n ti, h)
sound_parts n ti (x ∷ xs) ys h =
    let t = two n ti x (xs ++ ys) h in
    let i = sound_parts n ti xs ys t.sound in
    (two_back n ti x xs (record { fits = t.fits; fresh = fresh_front x.rfci xs ys t.fresh; sound = i.0 }), i.1)

pub sound_split : (n : ℕ) (ti : Bool) (all xs ys : List Row) → all ≡ xs ++ ys → sound n ti all ≡ true → (sound n ti xs ≡ true) × (sound n ti ys ≡ true)
sound_split n ti all xs ys e s = sound_parts n ti xs ys (sym (ap (sound n ti) e) ∙ s)

pub sound-take : (n : ℕ) (ti : Bool) (k : ℕ) (rs : List Row) → sound n ti rs ≡ true → sound n ti (take k rs) ≡ true
sound-take n ti k rs s = (sound_split n ti rs (take k rs) (drop k rs) (sym (take-append-drop k rs)) s).0

pub sound-drop : (n : ℕ) (ti : Bool) (k : ℕ) (rs : List Row) → sound n ti rs ≡ true → sound n ti (drop k rs) ≡ true
sound-drop n ti k rs s = (sound_split n ti rs (take k rs) (drop k rs) (sym (take-append-drop k rs)) s).1

pub free-take : (k : ℕ) (rs : List Row) → free rs ≡ true → free (take k rs) ≡ true
unfolding free
free-take zero rs h = refl
free-take (suc k) [] h = refl
free-take (suc k) (r ∷ rs) h =
    let p = and_parts r.allowed (free rs) h in and_from r.allowed (free (take k rs)) p.0 (free-take k rs p.1)

pub free-drop : (k : ℕ) (rs : List Row) → free rs ≡ true → free (drop k rs) ≡ true
unfolding free
free-drop zero rs h = h
free-drop (suc k) [] h = h
free-drop (suc k) (r ∷ rs) h = free-drop k rs (and_parts r.allowed (free rs) h).1
