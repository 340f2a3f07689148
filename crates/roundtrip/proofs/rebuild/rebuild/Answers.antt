use Rattle.roundtrip.proofs.Read.{built_is_read}
use Rattle.roundtrip.proofs.Built.{read_is_built, same_from}
use Rattle.roundtrip.proofs.Data.{data_is_read, data_is_built}
use Rattle.roundtrip.proofs.rebuild.rebuild.Goals as goal

pub returns : goal.returns
returns c =
    record {
      again = c.build_again.ensures;
      same = same_from c.args.octets.now c.build_again.result (λ k. (c.type_inv.octets k).fits) c.build_again.ensures;
      reads = built_is_read;
      builds = read_is_built;
      data_reads = data_is_read;
      data_builds = data_is_built;
    }
