use Rattle.std.proofs.Common.{◌≡◌, ◌^◌, ◌<◌, drop}
use Rattle.checksum.specs.Division.{octet_bits, parity}
use Rattle.checksum.proofs.Generator.of_octets.Given as goal

-- what is left gives the whole
abbrev pub invariant-loop-octet : goal.invariant-loop-octet
invariant-loop-octet l =
    (parity l.self.width l.self.bits l.sum (octet_bits (drop l.octet-index l.octets)) ≡ parity l.self.width l.self.bits 0 (octet_bits l.octets))
    × (l.sum < 2 ^ l.self.width)
