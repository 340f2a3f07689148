-- The number of each control procedure.
use Rattle.std.specs.Prelude.{ℕ, cond, Ok, Err, Result, ◌==◌, nat_lt}
use Rattle.frames.specs.declared.refusal.Refusal.{Refusal}
use Rattle.frames.specs.declared.refusal.Refusal.TheVariants.{Procedure as NoSuchProcedure}
use Rattle.frames.specs.declared.procedure.Procedure.{Procedure}
use Rattle.frames.specs.declared.procedure.Procedure.TheVariants.{Initialisation, RateControl, TimeAlignment, ErrorEvent}

abbrev pub code_of : Procedure → ℕ
code_of Initialisation = 0
code_of RateControl = 1
code_of TimeAlignment = 2
code_of ErrorEvent = 3

-- the procedure of a number up to 3
abbrev pub procedure_of : ℕ → Procedure
procedure_of n =
    cond (n == 0) Initialisation (cond (n == 1) RateControl (cond (n == 2) TimeAlignment ErrorEvent))

-- the numbers over 3 are reserved
abbrev pub procedure_in : ℕ → Result Procedure Refusal
procedure_in n = cond (nat_lt 3 n) (Err NoSuchProcedure) (Ok (procedure_of n))
