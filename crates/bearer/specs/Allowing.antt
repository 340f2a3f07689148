-- Marks of combinations, from RFCI 0 on: a mark bars its combination.
use Rattle.std.specs.Prelude.{ℕ, Bool, false, not, ◌&&◌, List, nat_lt, slice_index_or}
use Rattle.std.specs.List.{list_any}
use Rattle.sets.specs.Rows.{Row}

-- RFCI 0 to 62 have a mark each
abbrev pub allows_this : List Bool → ℕ → Bool
allows_this bars rfci = nat_lt rfci 63 && not (slice_index_or bars rfci false)

-- at least one combination of the set is allowed
abbrev pub allows_one : List Bool → List Row → Bool
allows_one bars rs = list_any (λ (r : Row). allows_this bars r.rfci) rs
