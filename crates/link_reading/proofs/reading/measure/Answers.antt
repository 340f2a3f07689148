use Rattle.std.proofs.Common.{◌∙◌, length, ap, arith}
use Rattle.link_reading.proofs.Codings.{extent_of, spread, onward_zero, extent_coded, spread_coded}
use Rattle.link_reading.proofs.reading.measure.Goals as goal

pub loop-combination-init : goal.loop-combination-init
loop-combination-init c =
    let n = c.args.subflows in
    let os = c.args.octets.now in
    let it = c.into_iter-combination-iterator.result in
    let e = c.into_iter-combination-iterator.ensures.into_iter_gives ∙ c.of-combination-items.ensures in
    let s = spread_coded (length os) n os in
    let q = ap spread e in
    (tt, tt, onward_zero (extent_of it) ∙ ap extent_of e ∙ extent_coded (length os) n os, omega arith, omega arith)
