-- What a draft, a set and a set in force say.
use Rattle.std.specs.Prelude.{◌≡◌, ◌≤◌, true, List, [], length}
use Rattle.sets.specs.Rows.{Row, Sound, sound, free}
use Rattle.sets.specs.Openings.{Values}

-- the opening values, and the combinations in order
pub record Contents : Type 0 where
  pub opening : Values
  pub combinations : List Row

-- as it is opened
abbrev pub opened : Values → Contents
opened o = record { opening = o; combinations = [] }

-- what holds of a set
abbrev pub SoundSet : Contents → Type 0
SoundSet c = Sound c.opening.subflows c.opening.timed c.combinations

-- what holds of a draft: at most 32 rows, they are sound, and none is barred
pub record SoundDraft (c : Contents) : Type 0 where
  pub room : length c.combinations ≤ 32
  pub sound : sound c.opening.subflows c.opening.timed c.combinations ≡ true
  pub free : free c.combinations ≡ true

-- what holds of a set as it was closed: none of its rows is barred
pub record ClosedSet (c : Contents) : Type 0 where
  pub sound : SoundSet c
  pub free : free c.combinations ≡ true
