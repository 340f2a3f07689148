use Rattle.std.proofs.Common.{◌++◌, ◌∙◌, ap, drop}
use Rattle.reports.specs.Blanks.{blank}
use Rattle.reports.proofs.Blanking.{cleared}
use Rattle.reports.proofs.report.wipe.Goals as goal

pub returns : goal.returns
returns c =
    ap (λ hs. hs ++ drop c.args.count c.args.list.now) c.blank_over.ensures
    ∙ cleared blank c.args.count c.args.list.now c.requires.used c.requires.behind
