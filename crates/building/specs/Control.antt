-- The octets of a control frame of each kind.
use Rattle.std.specs.Prelude.{ℕ, ◌+◌, List}
use Rattle.frames.specs.declared.control_kind.ControlKind.{ControlKind}
use Rattle.frames.specs.declared.control_kind.ControlKind.TheVariants.{Question, Ack, Nack}
use Rattle.building.specs.Building.{question_frame, spared}

abbrev pub control_frame : ControlKind → (procedure number : ℕ) → List ℕ → List ℕ
control_frame Question procedure number payload = question_frame procedure number payload
control_frame Ack procedure number payload = spared (228 + number) procedure payload
control_frame Nack procedure number payload = spared (232 + number) procedure payload
