-- Bits rounded up to octets.
use Rattle.std.specs.Prelude.{ℕ, ◌+◌, ◌/◌}

-- the least number of octets that holds some bits
abbrev pub octets_for : ℕ → ℕ
octets_for bits = (bits + 7) / 8
