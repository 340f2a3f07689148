-- What a store of cells stands for.
use Rattle.std.specs.Prelude.{◌≡◌, ℕ, ◌-◌, ◌≤◌, Bool, ◌&&◌, List, [], length, nat_lt}
use Rattle.lines.specs.Meaning.{fits}
use Rattle.lines.specs.Circle.{Turn, items_in}

-- how many cells there are beyond the first one, and the frames that wait, oldest first
pub record Standing : Type 0 where
  pub more : ℕ
  pub frames : List (List ℕ)

abbrev pub standing : List (List ℕ) → Turn → Standing
standing cells turn = record { more = turn.size - 1; frames = items_in [] cells turn }

-- as many cells as there may be are there, of which one is used at least
pub record Sound (cells : List (List ℕ)) (turn : Turn) : Type 0 where
  pub wide : length cells ≡ 32
  pub some : 1 ≤ turn.size
  pub few : turn.size ≤ 32

-- whether that many cells take a length behind these frames: while a cell is free, each that a frame can have
abbrev pub free : ℕ → List (List ℕ) → ℕ → Bool
free size fs n = fits n && nat_lt (length fs) size
