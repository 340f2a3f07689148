-- A store of cells as a line keeps it, and what a frame more or less makes of its places.
use Rattle.std.specs.Prelude.{ℕ, ◌+◌, ◌-◌, List, []}
use Rattle.lines.specs.Meaning.{EachFramed}
use Rattle.lines.specs.Circle.{Turn, Round, items_in}
use Rattle.cells.specs.Standing.{Sound}

-- the cells in use, oldest first: a cell means the frame in it
abbrev pub in_use : List (List ℕ) → Turn → List (List ℕ)
in_use = items_in []

-- places in range, and frames in the cells in use: what the store, its places and the queue each hold
pub record Kept (cells : List (List ℕ)) (t : Turn) : Type 0 where
  pub sound : Sound cells t
  pub round : Round t
  pub filled : EachFramed (in_use cells t)

-- a cell more is in use, behind the others
abbrev pub put_at : Turn → Turn
put_at t = record { size = t.size; head = t.head; used = t.used + 1 }

-- a cell less is in use, and the oldest stands at a place
abbrev pub cut : Turn → ℕ → Turn
cut t at = record { size = t.size; head = at; used = t.used - 1 }
