use Rattle.std.proofs.Common.{◌≡◌, sym, ◌∙◌}
use Rattle.checksum.specs.Division.{octet_bits, parity, parity_of}
use Rattle.checksum.proofs.Steps.{octet_step, octet_end}
use Rattle.checksum.proofs.Linear.{checks, bits-octets}
use Rattle.checksum.proofs.Generator.of_octets.Goals as goal

pub loop-octet-preserved : goal.loop-octet-preserved
loop-octet-preserved c = (
  octet_step c.args.self.width c.args.self.bits c.loop-octet.sum c.with_octet-sum.result c.args.octets.now c.loop-octet.octet-index c.loop-octet-test.true c.with_octet-sum.ensures.is ∙ c.loop-octet.invariant.0,
  c.with_octet-sum.ensures.small,
)

pub returns : goal.returns
unfolding parity_of
returns c =
    let os = c.args.octets.now in
    let e : c.loop-octet.sum ≡ parity c.args.self.width c.args.self.bits 0 (octet_bits os) =
    sym (octet_end c.args.self.width c.args.self.bits c.loop-octet.sum os c.loop-octet.octet-index c.loop-octet-test.false) ∙ c.loop-octet.invariant.0 in
    record {
      is = e;
      law = checks c.args.self.width c.args.self.bits c.args.self.degree.0 c.args.self.leading.0 c.args.self.leading.1 (octet_bits os) c.loop-octet.sum (bits-octets os) e c.loop-octet.invariant.1;
      small = c.loop-octet.invariant.1;
    }
