-- The values that a draft is opened with.
use Rattle.std.specs.Prelude.{ℕ, Bool, false, cond, ◌&&◌, Ok, Err, Result, nat_le}
use Rattle.frames.specs.declared.data_type.DataType.{DataType}
use Rattle.frames.specs.declared.data_type.DataType.TheVariants.{Checked}
use Rattle.frames.specs.DataTypes.{data_type_in}
use Rattle.frames.specs.declared.refusal.Refusal.{Refusal}
use Rattle.frames.specs.declared.refusal.Refusal.TheVariants.{Dimensions}

-- N, TI and the data PDU type
pub record Values : Type 0 where
  pub subflows : ℕ
  pub timed : Bool
  pub data_type : DataType

-- with a type of user data, if there is one
abbrev pub typed : ℕ → Bool → Result DataType Refusal → Result Values Refusal
typed n ti (Ok t) = Ok (record { subflows = n; timed = ti; data_type = t })
typed n ti (Err e) = Err Dimensions

-- N is 1 to 7, the data PDU type 0 or 1
abbrev pub opening_in : ℕ → Bool → ℕ → Result Values Refusal
opening_in n ti type = cond (nat_le 1 n && nat_le n 7) (typed n ti (data_type_in type)) (Err Dimensions)

-- one subflow, no IPTIs, data PDU type 0
abbrev pub smallest : Values
smallest = record { subflows = 1; timed = false; data_type = Checked }
