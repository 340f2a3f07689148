-- The PDU type of each type of user data.
use Rattle.std.specs.Prelude.{ℕ, cond, Ok, Err, Result, ◌==◌}
use Rattle.frames.specs.declared.refusal.Refusal.{Refusal}
use Rattle.frames.specs.declared.refusal.Refusal.TheVariants.{UnexpectedPduType}
use Rattle.frames.specs.declared.data_type.DataType.{DataType}
use Rattle.frames.specs.declared.data_type.DataType.TheVariants.{Checked, Plain}

abbrev pub data_number : DataType → ℕ
data_number Checked = 0
data_number Plain = 1

-- the type of user data that frames of a PDU type carry
abbrev pub data_type_in : ℕ → Result DataType Refusal
data_type_in n = cond (n == 0) (Ok Checked) (cond (n == 1) (Ok Plain) (Err UnexpectedPduType))
