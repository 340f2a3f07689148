-- A frame by value, made of two parts.
use Rattle.std.specs.Prelude.{ℕ, List, Result}
use Rattle.frames.specs.declared.refusal.Refusal.{Refusal}
use Rattle.frames.specs.Frame.{longest}
use Rattle.frames.specs.Rows as rows

-- octets, if a frame has room for them
abbrev pub fitting : List ℕ → Result (List ℕ) Refusal
fitting octets = rows.fitting longest octets
