-- A combination that was found by its RFCI.
-- Assumes nothing.
use Rattle.std.proofs.Common.{◌≡◌, ℕ, ◌<◌, ◌≤◌, List, length, get_or, Some, refl, ap, ◌∙◌, sym}
use Rattle.std.proofs.lemmas.Option.{slice_get_read}
use Rattle.sets.specs.Contents.{Contents, SoundSet}
use Rattle.sets.specs.Rows.{Row, bits, sound}
use Rattle.sets.proofs.Fitting.{fit_read}
use Rattle.set_in_force.specs.declared.place.Found.{Found}
use Rattle.set_in_force.specs.Looks.{told, told_at, looked_up, index_of}

pub bits_there : (c : Contents) (rs : List Row) (i : ℕ) (r : Row) → rs ≡ c.combinations → SoundSet c → r ≡ get_or rs i r → i < length rs → bits r.sizes ≤ 4000
bits_there c rs i r e s g h = (fit_read c.opening.subflows c.opening.timed rs i r g (ap (λ xs. sound c.opening.subflows c.opening.timed xs) e ∙ s.sound) h).bits

pub told_there : (n i : ℕ) (rs all : List Row) (r : Row) (f : Found) → Some f ≡ told i (Some r) → r ≡ get_or rs i r → i < length rs → Some i ≡ index_of n rs → rs ≡ all → Some f ≡ looked_up n all
told_there n i rs all r f t g h e a =
    let at = slice_get_read rs (length rs) i r refl h g in
    t ∙ ap (told i) (sym at) ∙ ap (told_at rs) e ∙ ap (looked_up n) a
