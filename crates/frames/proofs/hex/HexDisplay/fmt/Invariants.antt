use Rattle.std.proofs.Common.{take}
use Rattle.std.specs.Fmt.{HasWritten, IsPlainFormatter}
use Rattle.frames.specs.Hex.{hex_text}
use Rattle.frames.proofs.hex.HexDisplay.fmt.Given as goal

-- the octets that came are written
abbrev pub invariant-loop-octet : goal.invariant-loop-octet
invariant-loop-octet g l =
    IsPlainFormatter l.initial.f → HasWritten g.W.Write.write_str_gives l.initial.f (hex_text (take l.octet-index l.octet-items)) l.f
