-- Octets round a store: how many there can be, and those that are in it.
use Rattle.std.specs.Prelude.{ℕ, ◌+◌, ◌≤◌, List}
use Rattle.frames.specs.Frame.{longest}
use Rattle.lines.specs.Circle.{Turn, items_in}

-- a frame of the greatest length has room in the smallest ring
abbrev pub least : ℕ
least = longest + 2

abbrev pub greatest : ℕ
greatest = 65536

-- how many octets there can be, and the octets in use, oldest first
pub record Held : Type 0 where
  pub size : ℕ
  pub content : List ℕ

abbrev pub held : ℕ → List ℕ → Held
held size content = record { size = size; content = content }

-- the octets that stand round a store
abbrev pub held_in : List ℕ → Turn → Held
held_in octets turn = held turn.size (items_in 0 octets turn)

-- there are places, and no more than there may be
pub record Sized (turn : Turn) : Type 0 where
  pub some : 1 ≤ turn.size
  pub most : turn.size ≤ greatest
