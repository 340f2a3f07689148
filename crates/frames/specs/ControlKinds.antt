-- The two bits of each kind of control frame.
use Rattle.std.specs.Prelude.{ℕ, cond, Ok, Err, Result, ◌==◌}
use Rattle.frames.specs.declared.refusal.Refusal.{Refusal}
use Rattle.frames.specs.declared.refusal.Refusal.TheVariants.{ReservedValue}
use Rattle.frames.specs.declared.control_kind.ControlKind.{ControlKind}
use Rattle.frames.specs.declared.control_kind.ControlKind.TheVariants.{Question, Ack, Nack}

abbrev pub kind_in : ℕ → Result ControlKind Refusal
kind_in n = cond (n == 0) (Ok Question) (cond (n == 1) (Ok Ack) (cond (n == 2) (Ok Nack) (Err ReservedValue)))
