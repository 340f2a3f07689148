use Rattle.std.proofs.Common.{◌≡◌, ◌++◌, drop, replicate}
use Rattle.reports.specs.Blanks.{blank}
use Rattle.reports.proofs.report.blank_over.Given as goal

abbrev pub invariant-loop-happening : goal.invariant-loop-happening
invariant-loop-happening l = l.happenings ≡ replicate l.happening-index blank ++ drop l.happening-index l.fn.happenings
