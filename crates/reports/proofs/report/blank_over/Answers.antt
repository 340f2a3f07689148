use Rattle.std.proofs.Common.{ap, ◌∙◌, slice_set}
use Rattle.reports.specs.Blanks.{blank}
use Rattle.reports.proofs.Blanking.{blanked}
use Rattle.reports.proofs.report.blank_over.Goals as goal

pub loop-happening-preserved : goal.loop-happening-preserved
loop-happening-preserved c =
    ap (λ hs. slice_set hs c.loop-happening.happening-index blank) c.loop-happening.invariant
    ∙ blanked blank c.loop-happening.happening-index c.args.happenings.now c.loop-happening-test.true
