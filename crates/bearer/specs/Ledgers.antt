-- What the ledger of an end takes from a call: what was opened, delivered and taken out.
use Rattle.std.specs.Prelude.{◌≡◌, ℕ, cond, List, [], ◌∷◌, take, Some, None, Ok, Err, Option, Result, slice_get}
use Rattle.frames.specs.declared.refusal.Refusal.{Refusal}
use Rattle.sets.specs.Rows.{Row}
use Rattle.sets.specs.Contents.{Contents}
use Rattle.set_in_force.specs.Places.{places_from}
use Rattle.reports.specs.declared.ending.Kind.{Kind}
use Rattle.reports.specs.declared.happening.Delivery.{Delivery}
use Rattle.exchange.specs.Books.{Mark, opened, same}

-- an accepted request of kind j, in the books of kind k
abbrev pub granted : {A : Type 0} → Kind → Kind → Result A Refusal → List Mark
granted k j (Ok a) = cond (same j k) (opened ∷ []) []
granted k j (Err e) = []

-- a delivery bears the RFCI of a row, and is cut into exactly the sizes of that row, from bit 0 without gaps
pub record Cut (rows : List Row) (d : Delivery) : Type 0 where
  pub index : ℕ
  pub row : Row
  pub there : slice_get rows index ≡ Some row
  pub rfci : d.rfci ≡ row.rfci
  pub subflows : d.subflows ≡ places_from 0 row.sizes

-- each delivery is of the set in force; without one there is none
abbrev pub Borne : Option Contents → List Delivery → Type 0
Borne o [] = Unit {0}
Borne None (d ∷ ds) = ⊥
Borne (Some c) (d ∷ ds) = Cut c.combinations d × Borne (Some c) ds

-- the frame that a call took out, by the buffer as it left it
abbrev pub taken_out : List ℕ → Result (Option ℕ) Refusal → List (List ℕ)
taken_out out (Ok (Some n)) = take n out ∷ []
taken_out out (Ok None) = []
taken_out out (Err e) = []
