use Rattle.std.proofs.Common.{length, ap, ◌∙◌, ◌++◌, ◌+◌, ◌-◌, replicate}
use Rattle.frames.proofs.Parts.{over, both_laid}
use Rattle.frames.proofs.row.laid.Goals as goal

pub returns : goal.returns
returns g c =
    let f = c.args.front.now in
    let b = c.args.back.now in
    c.write-2.ensures ∙ ap (over (length f) b) c.write.ensures
    ∙ both_laid c.blank-cells.result g.row.N f b
    ∙ ap (λ z. (f ++ b) ++ replicate (g.row.N - (length f + length b)) z) c.blank-cells.ensures
