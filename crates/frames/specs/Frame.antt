-- A frame by value: how many octets it holds.
use Rattle.std.specs.Prelude.{ℕ}

-- the most octets that a frame has
abbrev pub longest : ℕ
longest = 512
