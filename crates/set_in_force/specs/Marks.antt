-- Marks of combinations.
use Rattle.std.specs.Prelude.{ℕ, Bool, cond, List, map, ◌==◌}
use Rattle.sets.specs.Rows.{Row, allowed_as}
use Rattle.sets.specs.Contents.{Contents}

-- the rows, with the one of this RFCI marked
unfoldable pub marked : ℕ → Bool → List Row → List Row
marked n b rs = map (λ r. cond (r.rfci == n) (allowed_as b r) r) rs

-- the set, with the row of this RFCI marked
abbrev pub marked_in : ℕ → Bool → Contents → Contents
marked_in n b c = record { opening = c.opening; combinations = marked n b c.combinations }
