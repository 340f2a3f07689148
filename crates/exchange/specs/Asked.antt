-- What every kind of question shows.
use Rattle.std.specs.Prelude.{◌≡◌, ℕ, ◌%◌, ◌<◌, Bool, true, false, List}
use Rattle.frames.specs.declared.procedure.Procedure.{Procedure}
use Rattle.frames.specs.Procedures.{code_of}
use Rattle.building.specs.Building.{question_frame}
use Rattle.reports.specs.declared.ending.Kind.{Kind}
use Rattle.reports.specs.declared.ending.Ending.{Ending}
use Rattle.exchange.specs.declared.answer.Turn.{Turn}
use Rattle.exchange.specs.declared.answer.Turn.TheVariants.{Onward, Again, Stop}
use Rattle.exchange.specs.Books.{procedure_of, completes}

-- the frame with a number is the question of the procedure, with the payload for that number
abbrev pub frames_of : {Q : Type 0} → Procedure → (Q → ℕ → List ℕ) → Q → ℕ → List ℕ
frames_of procedure asks q m = question_frame (code_of procedure) (m % 4) (asks q m)

-- an answer stops nothing as done
abbrev pub Fails : Turn → Type 0
Fails Onward = Unit {0}
Fails Again = Unit {0}
Fails (Stop c) = completes c ≡ false

-- the frames are those of the procedure, which is that of the kind;
-- only a number below 3 is followed by another; nothing but the last frame ends a question as done
pub record Proper {Q A : Type 0} (procedure : Procedure) (kind : Kind) (asks frames : Q → ℕ → List ℕ) (follows : Q → ℕ → Bool) (unanswered declined : Ending) (turns : A → Turn) : Type 0 where
  pub asked : (q : Q) (m : ℕ) → frames q m ≡ frames_of procedure asks q m
  pub coded : code_of procedure ≡ procedure_of kind
  pub few : (q : Q) (m : ℕ) → follows q m ≡ true → m < 3
  pub lapsing : completes unanswered ≡ false
  pub declining : completes declined ≡ false
  pub stopping : (a : A) → Fails (turns a)
