-- What an answer to each kind of question leads to.
use Rattle.std.specs.Prelude.{ℕ, cond, Some, None, Option, Result, ◌==◌}
use Rattle.reports.specs.declared.ending.Ending.TheVariants.{AlignmentNotSupported, AlignmentNotPossible}
use Rattle.exchange.specs.declared.answer.Turn.{Turn}
use Rattle.exchange.specs.declared.answer.Turn.TheVariants.{Onward, Again, Stop}
use Rattle.questions.specs.declared.answer.AlignmentAnswer.{AlignmentAnswer}
use Rattle.questions.specs.declared.answer.AlignmentAnswer.TheVariants.{Aligned, NotSupported, NotPossible, Declined}

-- a set of combinations, or the marks of them, is accepted or not: a Nack of any cause is not
abbrev pub acceptance_leads : Option ℕ → Turn
acceptance_leads None = Onward
acceptance_leads (Some c) = Again

-- 47: not supported, 48: not possible
abbrev pub alignment_of : Option ℕ → AlignmentAnswer
alignment_of None = Aligned
alignment_of (Some c) = cond (c == 47) NotSupported (cond (c == 48) NotPossible (Declined c))

-- these two end the alignment at once
abbrev pub alignment_leads : AlignmentAnswer → Turn
alignment_leads Aligned = Onward
alignment_leads NotSupported = Stop AlignmentNotSupported
alignment_leads NotPossible = Stop AlignmentNotPossible
alignment_leads (Declined c) = Again

-- what a time alignment makes of a cause
abbrev pub alignment_turns : Option ℕ → Turn
alignment_turns cause = alignment_leads (alignment_of cause)

abbrev pub alignment_cause : AlignmentAnswer → Option ℕ
alignment_cause Aligned = None
alignment_cause NotSupported = Some 47
alignment_cause NotPossible = Some 48
alignment_cause (Declined c) = Some c
