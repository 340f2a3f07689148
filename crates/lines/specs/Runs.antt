-- Whole runs of a line: any sequence of puts and takes, and what such a run says of itself.
use Rattle.std.specs.Prelude.{◌≡◌, ℕ, Bool, List, [], ◌∷◌, ◌++◌, length, Some, None, Ok, Err, Option, Result}
use Rattle.frames.specs.declared.refusal.Refusal.{Refusal}
use Rattle.lines.specs.Meaning.{sends, accepted, roomy, Passed, Took}
use Rattle.std.proofs.Math.ListN as lists

-- a call of a line, with what went in and what came out
pub data Call : Type 0 where
  -- the frame, and the answer
  put : List ℕ → Result (Unit {0}) Refusal → Call
  -- the buffer before and after, and the answer
  take : List ℕ → List ℕ → Result (Option ℕ) Refusal → Call

-- the frame that was put, where it was accepted
abbrev pub accepted_in : Call → List (List ℕ)
accepted_in (put f (Ok x)) = f ∷ []
accepted_in (put f (Err e)) = []
accepted_in (take o o' r) = []

-- the frame that was taken: what the buffer then begins with
abbrev pub taken_in : Call → List (List ℕ)
taken_in (put f r) = []
taken_in (take o o' (Ok (Some n))) = lists.take n o' ∷ []
taken_in (take o o' (Ok None)) = []
taken_in (take o o' (Err e)) = []

-- over all the calls, the first of which stands first
abbrev pub in_all : (Call → List (List ℕ)) → List Call → List (List ℕ)
in_all part [] = []
in_all part (c ∷ cs) = part c ++ in_all part cs

module _ {L : Type 0} (waiting : L → List (List ℕ)) (takes : L → ℕ → Bool) where
  -- what a line promises of one call
  abbrev pub Step : L → Call → L → Type 0
  Step l (put f r) l' = (r ≡ accepted (takes l (length f))) × Passed waiting l l' (sends (takes l (length f)) f)
  Step l (take o o' r) l' = Took waiting takes (roomy o) (waiting l) l l' o o' r

  -- one call after the other
  pub data Run : L → List Call → L → Type 0 where
    none : {l : L} → Run l [] l
    first : {l l₁ l₂ : L} {c : Call} {cs : List Call} → Step l c l₁ → Run l₁ cs l₂ → Run l (c ∷ cs) l₂

  -- nothing is lost, made up, doubled or overtaken: what was taken and then what waits is what waited at first and then what was accepted
  abbrev pub Conserves : L → Type 0
  Conserves l = (cs : List Call) (l' : L) → Run l cs l' → in_all taken_in cs ++ waiting l' ≡ waiting l ++ in_all accepted_in cs
