-- Combinations looked up and searched.
use Rattle.std.specs.Prelude.{◌≡◌, ℕ, ◌<◌, max, List, length, Some, None, Ok, Err, Option, Result, ◌==◌, ◌≢◌, slice_get, slice_index_or}
use Rattle.std.specs.List.{fold, position}
use Rattle.frames.specs.declared.refusal.Refusal.{Refusal}
use Rattle.frames.specs.declared.refusal.Refusal.TheVariants.{NoSuchSizes}
use Rattle.sets.specs.Rows.{Row, bits}
use Rattle.set_in_force.specs.declared.place.Found.{Found}
use Rattle.set_in_force.specs.Places.{places_from}

-- which row has this RFCI
abbrev pub index_of : ℕ → List Row → Option ℕ
index_of n rs = position (λ r. r.rfci == n) rs

-- what is told of a combination
abbrev pub told : ℕ → Option Row → Option Found
told i None = None
told i (Some r) = Some (record { index = i; bits = bits r.sizes; allowed = r.allowed; places = places_from 0 r.sizes })

abbrev pub told_at : List Row → Option ℕ → Option Found
told_at rs None = None
told_at rs (Some i) = told i (slice_get rs i)

-- the combination with this RFCI
abbrev pub looked_up : ℕ → List Row → Option Found
looked_up n rs = told_at rs (index_of n rs)

abbrev pub rfci_of : Option Row → Option ℕ
rfci_of None = None
rfci_of (Some r) = Some r.rfci

-- the highest RFCI of rows
unfoldable pub highest_of : List Row → ℕ
highest_of rs = fold (λ most r. max most r.rfci) 0 rs

-- some row has this RFCI and these sizes
abbrev pub Holds : ℕ → List ℕ → List Row → Type 0
Holds n ss rs = (k : ℕ) × (k < length rs) × ((d : Row) → (slice_index_or rs k d).rfci ≡ n) × ((d : Row) → (slice_index_or rs k d).sizes ≡ ss)

-- no row has these sizes
abbrev pub NoneOf : List ℕ → List Row → Type 0
NoneOf ss rs = (k : ℕ) (d : Row) → k < length rs → (slice_index_or rs k d).sizes ≢ ss

-- the search names any one combination with exactly these sizes, and refuses by 116 where there is none
abbrev pub Searched : List ℕ → List Row → Result ℕ Refusal → Type 0
Searched ss rs (Ok n) = Holds n ss rs
Searched ss rs (Err e) = (e ≡ NoSuchSizes) × NoneOf ss rs
