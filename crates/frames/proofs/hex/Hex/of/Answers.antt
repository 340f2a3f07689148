use Rattle.frames.proofs.Written.{read_back}
use Rattle.frames.proofs.hex.Hex.of.Goals as goal

pub returns-clause-back : goal.returns-clause-back
returns-clause-back c = read_back c.args.octets.now (λ k. (c.type_inv.octets k).fits)
