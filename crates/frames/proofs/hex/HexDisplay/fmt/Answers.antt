use Rattle.std.proofs.Common.{rules, get_or}
use Rattle.std.proofs.Output.{has_written_append, has_written_of_eq}
use Rattle.frames.proofs.Written.{text_more}
use Rattle.frames.proofs.hex.HexDisplay.fmt.Goals as goal

pub loop-octet-preserved : goal.loop-octet-preserved
loop-octet-preserved g c = λ plain.
    let octets = c.self.inside.octets.now in
    let i = c.loop-octet.octet-index in
    has_written_of_eq _ _ _ _ _ (text_more octets i (get_or octets i 0) (search rules) (search rules) (search rules)) (has_written_append _ _ _ _ _ _ (c.loop-octet.invariant plain) (search rules))
