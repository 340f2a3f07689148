-- Where the subflows of a combination lie.
use Rattle.std.specs.Prelude.{ℕ, ◌+◌, List, [], ◌∷◌, ◌++◌, codes}
use Rattle.std.specs.Fmt.{decimal}
use Rattle.set_in_force.specs.declared.place.Place.{Place}

-- what stands in a cell behind the last subflow
abbrev pub nowhere : Place
nowhere = record { first = 0; bits = 0 }

-- the first bit and the length of each subflow: one begins where the one before it ends
unfoldable pub places_from : ℕ → List ℕ → List Place
places_from at [] = []
places_from at (s ∷ ss) = record { first = at; bits = s } ∷ places_from (at + s) ss

-- a place as text: its first bit and its length
abbrev pub place_text : Place → List ℕ
place_text p = decimal p.first ++ (codes "+" ++ decimal p.bits)
