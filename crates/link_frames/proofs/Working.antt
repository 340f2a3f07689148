-- A link worked by hand.
-- Assumes nothing.
use Rattle.std.proofs.Common.{refl}
use Rattle.checksum.specs.Division.{bits_of, octet_bits, reduced, parity, parity_of}
use Rattle.link_building.specs.Wire.{payload, combinations, combination, wide, sizes_octets, size_octets, nibbles}
use Rattle.link_frames.specs.Frames.{Worked}

pub worked : Worked
unfolding payload combinations combination wide sizes_octets size_octets nibbles bits_of octet_bits reduced parity parity_of
worked = refl
