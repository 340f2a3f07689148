use Rattle.std.proofs.Common.{◌≡◌, ◌^◌, ◌<◌}
use Rattle.checksum.specs.Division.{bits_of, parity}
use Rattle.checksum.proofs.Generator.with_octet.Given as goal

abbrev pub invariant-loop-place : goal.invariant-loop-place
invariant-loop-place l =
    (parity l.self.width l.self.bits l.sum (bits_of l.place l.octet) ≡ parity l.self.width l.self.bits l.initial.sum (bits_of 8 l.octet))
    × (l.sum < 2 ^ l.self.width)
