-- Subflows, one by one.
-- Assumes nothing.
use Rattle.std.proofs.Common.{◌≡◌, ℕ, ◌+◌, ◌<◌, ◌≤◌, List, [], ◌∷◌, length, get_or, drop}
use Rattle.std.proofs.lemmas.List.{at_drop_more, at_drop_all}
use Rattle.set_in_force.specs.Places.{places_from}

pub places_more : (at : ℕ) (ss : List ℕ) (k : ℕ) → k < length ss → places_from at (drop k ss) ≡ record { first = at; bits = get_or ss k 0 } ∷ places_from (at + get_or ss k 0) (drop (k + 1) ss)
unfolding places_from
places_more at ss k h = at_drop_more (places_from at) ss k 0 h

pub places_all : (at : ℕ) (ss : List ℕ) (k : ℕ) → length ss ≤ k → places_from at (drop k ss) ≡ []
unfolding places_from
places_all at ss k h = at_drop_all (places_from at) ss k h
