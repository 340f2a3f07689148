-- What a line does, over the meaning of its state: the frames that wait, oldest first, and the lengths that it takes now.
use Rattle.std.specs.Prelude.{◌≡◌, ℕ, ◌≤◌, ◌<◌, Bool, true, false, ◌&&◌, List, [], ◌∷◌, ◌++◌, length, drop, Some, None, Ok, Err, Option, Result, nat_le, slice_index_or}
use Rattle.frames.specs.declared.refusal.Refusal.{Refusal}
use Rattle.frames.specs.declared.refusal.Refusal.TheVariants.{LineDeclines, BufferTooSmall}
use Rattle.frames.specs.Frame.{longest}

-- the lengths that a frame can have
abbrev pub fits : ℕ → Bool
fits n = nat_le 1 n && nat_le n longest

abbrev pub Framed : List ℕ → Type 0
Framed f = (1 ≤ length f) × (length f ≤ longest)

-- every frame of the list has a length that a frame can have
abbrev pub EachFramed : List (List ℕ) → Type 0
EachFramed fs = (k : ℕ) → k < length fs → Framed (slice_index_or fs k [])

-- what reaches a line: the frame, where the line takes it
abbrev pub sends : Bool → List ℕ → List (List ℕ)
sends true f = f ∷ []
sends false f = []

-- how a sending is answered
abbrev pub accepted : Bool → Result (Unit {0}) Refusal
accepted true = Ok tt
accepted false = Err LineDeclines

-- whether a buffer holds every frame that can wait
abbrev pub roomy : List ℕ → Bool
roomy out = nat_le longest (length out)

module _ {L : Type 0} (waiting : L → List (List ℕ)) where
  -- the frames wait behind the others; with none the whole line is as it was
  abbrev pub Passed : L → L → List (List ℕ) → Type 0
  Passed l l' [] = l' ≡ l
  Passed l l' (f ∷ fs) = waiting l' ≡ waiting l ++ f ∷ fs

-- nothing changes, neither the line nor the buffer
pub record Untouched {L : Type 0} (told : Result (Option ℕ) Refusal) (l l' : L) (o o' : List ℕ) (r : Result (Option ℕ) Refusal) : Type 0 where
  pub answer : r ≡ told
  pub line : l' ≡ l
  pub out : o' ≡ o

module _ {L : Type 0} (waiting : L → List (List ℕ)) (takes : L → ℕ → Bool) where
  -- f fills the start of the buffer, the rest of which stays, and fs still wait; what the line took it still takes
  pub record Moved (f : List ℕ) (fs : List (List ℕ)) (l l' : L) (o o' : List ℕ) (r : Result (Option ℕ) Refusal) : Type 0 where
    pub answer : r ≡ Ok (Some (length f))
    pub waits : waiting l' ≡ fs
    pub out : o' ≡ f ++ drop (length f) o
    pub keeps : (n : ℕ) → takes l n ≡ true → takes l' n ≡ true

  -- taking the oldest: by whether the buffer is large enough, and by what waits
  abbrev pub Took : Bool → List (List ℕ) → L → L → List ℕ → List ℕ → Result (Option ℕ) Refusal → Type 0
  Took false ws l l' o o' r = Untouched (Err BufferTooSmall) l l' o o' r
  Took true [] l l' o o' r = Untouched (Ok None) l l' o o' r
  Took true (f ∷ fs) l l' o o' r = Moved f fs l l' o o' r
