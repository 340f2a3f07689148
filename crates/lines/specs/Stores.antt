-- What a store of frames does, and what a queue over it is.
use Rattle.std.specs.Prelude.{◌≡◌, ℕ, Bool, true, false, List, [], ◌∷◌, ◌++◌, length, drop, Some, None, Ok, Err, Option, Result}
use Rattle.frames.specs.declared.refusal.Refusal.{Refusal}
use Rattle.frames.specs.declared.refusal.Refusal.TheVariants.{BufferTooSmall}
use Rattle.lines.specs.Meaning.{EachFramed, Untouched}

-- a store, the frames in it, oldest first, and that each of them can be one
pub record Queued (S : Type 0) : Type 0 where
  pub store : S
  pub frames : List (List ℕ)
  pub framed : EachFramed frames

module _ {S : Type 0} (frames : S → List (List ℕ)) where
  -- f fills the start of the buffer, the rest of which stays, and fs are left
  pub record Gone (f : List ℕ) (fs : List (List ℕ)) (s' : S) (o o' : List ℕ) (r : Result (Option ℕ) Refusal) : Type 0 where
    pub answer : r ≡ Ok (Some (length f))
    pub left : frames s' ≡ fs
    pub out : o' ≡ f ++ drop (length f) o

  -- the oldest frame goes out, by whether the buffer is large enough and by what waits; with none nothing changes, neither the store nor the buffer
  abbrev pub Popped : Bool → List (List ℕ) → S → S → List ℕ → List ℕ → Result (Option ℕ) Refusal → Type 0
  Popped false fs s s' o o' r = Untouched (Err BufferTooSmall) s s' o o' r
  Popped true [] s s' o o' r = Untouched (Ok None) s s' o o' r
  Popped true (f ∷ fs) s s' o o' r = Gone f fs s' o o' r
