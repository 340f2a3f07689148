-- What a ring holds: each frame as its length in two octets, high first, and its octets.
use Rattle.std.specs.Prelude.{◌≡◌, ℕ, zero, suc, ◌+◌, ◌-◌, ◌*◌, ◌/◌, ◌%◌, ◌≤◌, Bool, ◌&&◌, List, [], ◌∷◌, ◌++◌, length, take, drop, nat_le}
use Rattle.lines.specs.Meaning.{fits, EachFramed}
use Rattle.ring.specs.Round.{least, Held}

-- frames as octets, one behind the other
abbrev pub packed : List (List ℕ) → List ℕ
packed [] = []
packed (f ∷ fs) = (length f / 256) ∷ (length f % 256) ∷ (f ++ packed fs)

-- octets as frames, n at most
abbrev pub unpacked : ℕ → List ℕ → List (List ℕ)
unpacked zero os = []
unpacked (suc n) [] = []
unpacked (suc n) (h ∷ []) = []
unpacked (suc n) (h ∷ l ∷ os) = take (h * 256 + l) os ∷ unpacked n (drop (h * 256 + l) os)

-- the octets that frames cost: the length of each, plus two
abbrev pub cost : List (List ℕ) → ℕ
cost [] = 0
cost (f ∷ fs) = length f + 2 + cost fs

-- whether a ring of that size takes a length behind these frames: each that a frame can have, while there is room for it and two octets more
abbrev pub room : ℕ → List (List ℕ) → ℕ → Bool
room size fs n = fits n && nat_le (cost fs + (n + 2)) size

-- the frames that the octets are
abbrev pub frames_in : List ℕ → List (List ℕ)
frames_in os = unpacked (length os) os

-- how many octets there are beyond the least, and the frames that wait, oldest first
pub record Standing : Type 0 where
  pub spare : ℕ
  pub frames : List (List ℕ)

abbrev pub standing : Held → Standing
standing h = record { spare = h.size - least; frames = frames_in h.content }

-- the octets in use are the frames, and nothing else
pub record Sound (h : Held) : Type 0 where
  pub large : least ≤ h.size
  pub whole : packed (frames_in h.content) ≡ h.content
  pub framed : EachFramed (frames_in h.content)
