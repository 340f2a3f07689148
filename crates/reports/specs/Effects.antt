-- What a call does: to what is stepped, to the line and to the report, and how it comes out.
use Rattle.std.specs.Prelude.{◌≡◌, ℕ, List, [], ◌∷◌, Err, Result}
use Rattle.frames.specs.declared.refusal.Refusal.{Refusal}
use Rattle.lines.specs.Meaning.{Passed}
use Rattle.reports.specs.declared.happening.Happening.{Happening}
use Rattle.reports.specs.Said.{noted, handed_in}

pub record Effect (S A : Type 0) : Type 0 where
  pub next : S
  pub says : List Happening
  pub answer : A

-- a refusal that changes nothing and says nothing
abbrev pub refuses : {S A : Type 0} → S → Refusal → Effect S (Result A Refusal)
refuses s e = record { next = s; says = []; answer = Err e }

-- an effect on a part
abbrev pub within : {P S A : Type 0} → (P → S) → Effect P A → Effect S A
within put f = record { next = put f.next; says = f.says; answer = f.answer }

-- one after the other
abbrev pub all_noted : List Happening → List Happening → List Happening
all_noted [] r = r
all_noted (h ∷ hs) r = all_noted hs (noted h r)

-- what is stepped, the answer, the line and the report are as the effect says: what is named as handed over waits on the line, and nothing else changes it
pub record Did {S A L : Type 0} (waiting : L → List (List ℕ)) (f : Effect S A) (s : S) (a : A) (l l' : L) (r r' : List Happening) : Type 0 where
  pub next : s ≡ f.next
  pub answer : a ≡ f.answer
  pub line : Passed waiting l l' (handed_in f.says)
  pub says : r' ≡ all_noted f.says r
