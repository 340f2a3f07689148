-- The table inside a set, after one combination more and after one mark changed.
-- Assumes nothing.
use Rattle.std.proofs.Common.{◌≡◌, ℕ, ◌<◌, Bool, List, [], ◌∷◌, ◌++◌, length, slice_set, slice_get, Ok, Some, ap, ◌∙◌, arith, length-set}
use Rattle.std.proofs.lemmas.List.{length_push}
use Rattle.sets.specs.declared.table.Table.{Table}
use Rattle.sets.specs.Rows.{Row, allowed_as, sound}
use Rattle.sets.specs.Openings.{Values}
use Rattle.sets.specs.Tables.{rows, contents, SoundTable}
use Rattle.sets.specs.Drafts.{admitted_to}
use Rattle.sets.proofs.Rows.{marked_set, sound-marked}
use Rattle.sets.proofs.Adds.{admission, sound_push, fits_from}

abbrev pub pushed : Table → Row → Table
pushed t r = record { opening = t.opening; combinations = t.combinations ++ r ∷ [] }

pub table_room : (t : Table) (r : Row) → Ok tt ≡ admitted_to (contents t) r → length (rows t) < 32
table_room t r h = (admission _ _ (rows t) r h).room

pub push_sound : (t : Table) (r : Row) → SoundTable t → Ok tt ≡ admitted_to (contents t) r → SoundTable (pushed t r)
push_sound t r s h =
    let n = t.opening.subflows in
    let ti = t.opening.timed in
    let a = admission n ti (rows t) r h in
    let l = length_push (rows t) r in
    record {
      some = s.some;
      few = s.few;
      room = omega (arith, a.room);
      sound = sound_push n ti (rows t) r s.sound (fits_from n ti (rows t) r a) a.fresh;
    }

pub allow_sound : (o : Values) (xs rs : List Row) (i : ℕ) (b : Bool) (r x : Row) → rs ≡ slice_set xs i r → slice_get xs i ≡ Some x → r ≡ allowed_as b x → SoundTable (record { opening = o; combinations = xs }) → SoundTable (record { opening = o; combinations = rs })
allow_sound o xs rs i b r x u h e s =
    let n = o.subflows in
    let ti = o.timed in
    let l = ap length u ∙ length-set xs i r in
    record {
      some = s.some;
      few = s.few;
      room = omega (arith, s.room);
      sound = ap (sound n ti) (u ∙ marked_set i b xs r x h e) ∙ sound-marked n ti b i xs ∙ s.sound;
    }
