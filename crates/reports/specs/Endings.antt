-- How a procedure ends.
use Rattle.std.specs.Prelude.{ℕ, Some, None, Option}
use Rattle.reports.specs.declared.ending.Ending.{Ending}
use Rattle.reports.specs.declared.ending.Ending.TheVariants.{Done, Overtaken, Accepted, NoAnswer, Rejected, RateFailure, AlignmentNotSupported, AlignmentNotPossible, AlignmentFailure}

-- the cause by which a failure is told
abbrev pub cause_of : Ending → Option ℕ
cause_of Done = None
cause_of Overtaken = None
cause_of Accepted = None
cause_of NoAnswer = Some 43
cause_of Rejected = Some 44
cause_of RateFailure = Some 45
cause_of AlignmentNotSupported = Some 47
cause_of AlignmentNotPossible = Some 48
cause_of AlignmentFailure = Some 118
