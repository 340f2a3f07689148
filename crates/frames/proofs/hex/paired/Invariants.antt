use Rattle.std.proofs.Common.{◌*◌, drop}
use Rattle.frames.proofs.Pairs.{Reading}
use Rattle.frames.proofs.hex.paired.Given as goal

abbrev pub invariant-loop-high : goal.invariant-loop-high
invariant-loop-high l = Reading l.digits (drop (2 * l.high-index) l.digits) l.octets
