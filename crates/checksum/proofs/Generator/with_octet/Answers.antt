use Rattle.std.proofs.Common.{◌≡◌, ◌-◌, ◌/◌, ◌%◌, ◌^◌, sym, ◌∙◌}
use lib.Bits.{bit_and}
use Rattle.std.proofs.lemmas.Nat.{and_mask}
use Rattle.checksum.proofs.Steps.{bit_step, bit_end}
use Rattle.checksum.proofs.Generator.with_octet.Goals as goal

pub loop-place-preserved : goal.loop-place-preserved
loop-place-preserved c =
    let o = c.args.octet / 2 ^ (c.loop-place.place - 1) in
    let b : bit_and o 1 ≡ o % 2 = and_mask o 1 in
    let e = rw b at c.with_bit-sum.ensures.is in
    (bit_step c.args.self.width c.args.self.bits c.loop-place.sum c.args.octet c.loop-place.place c.with_bit-sum.result c.loop-place-test.true e ∙ c.loop-place.invariant.0, c.with_bit-sum.ensures.small)

pub returns : goal.returns
returns c =
    record { is = sym (bit_end c.args.self.width c.args.self.bits c.loop-place.sum c.args.octet c.loop-place.place c.loop-place-test.false) ∙ c.loop-place.invariant.0; small = c.loop-place.invariant.1 }
