-- What a client of a line tells of a frame that it put.
use Rattle.std.specs.Prelude.{ℕ, Bool, true, false, List, Ok, Err, Result}
use Rattle.std.specs.Borrow.{Bor}
use Rattle.frames.specs.declared.refusal.Refusal.{Refusal}
use Rattle.frames.specs.declared.refusal.Refusal.TheVariants.{LineDeclines}

-- what an answer of the code says: the octets handed over, or those refused
abbrev pub said : Result (Bor (List ℕ)) (Bor (List ℕ)) → Result (List ℕ) (List ℕ)
said (Ok f) = Ok f.now
said (Err f) = Err f.now

-- a frame is handed over exactly if the line takes it
abbrev pub report : Bool → List ℕ → Result (List ℕ) (List ℕ)
report true f = Ok f
report false f = Err f

-- the answer of the line that a report tells of
abbrev pub answer_of : Result (Bor (List ℕ)) (Bor (List ℕ)) → Result (Unit {0}) Refusal
answer_of (Ok f) = Ok tt
answer_of (Err f) = Err LineDeclines
