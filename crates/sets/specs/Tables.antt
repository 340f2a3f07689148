-- The table inside a draft, a set and a set in force.
use Rattle.std.specs.Prelude.{◌≡◌, ◌≤◌, true, List, length}
use Rattle.sets.specs.Rows.{Row, sound, free}
use Rattle.sets.specs.Contents.{Contents}
use Rattle.sets.specs.declared.table.Table.{Table}

abbrev pub rows : Table → List Row
rows t = t.combinations

abbrev pub contents : Table → Contents
contents t = record { opening = t.opening; combinations = rows t }

-- the one table that says this
abbrev pub table_of : Contents → Table
table_of c = record { opening = c.opening; combinations = c.combinations }

-- what holds of each such table: N 1 to 7, at most 32 rows, and the rows are sound
pub record SoundTable (t : Table) : Type 0 where
  pub some : 1 ≤ t.opening.subflows
  pub few : t.opening.subflows ≤ 7
  pub room : length (rows t) ≤ 32
  pub sound : sound t.opening.subflows t.opening.timed (rows t) ≡ true

-- the same of one in a draft or a closed set, where no row is barred
pub record FreeTable (t : Table) : Type 0 where
  pub sound : SoundTable t
  pub free : free (rows t) ≡ true
