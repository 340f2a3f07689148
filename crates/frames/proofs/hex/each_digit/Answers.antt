use Rattle.std.proofs.Common.{ap, ◌∙◌}
use Rattle.std.proofs.lemmas.List.{take_all}
use Rattle.std.proofs.lemmas.List.Folds.{list_all_more}
use Rattle.frames.specs.Hex.{is_digit, all_digits}
use Rattle.frames.proofs.hex.each_digit.Goals as goal

pub loop-byte-preserved : goal.loop-byte-preserved
loop-byte-preserved c =
    let bs = c.args.bytes.now in
    let i = c.loop-byte.byte-index in
    let m = list_all_more is_digit bs i 0 c.loop-byte-test.true in
    let h = c.loop-byte.invariant in
    let d = c.is_digit-all.ensures in
    cc

pub returns : goal.returns
returns c = c.loop-byte.invariant ∙ ap all_digits (take_all c.loop-byte.byte-index c.args.bytes.now c.loop-byte-test.false)
