-- What is shown of a line, and what is kept of one that comes byte by byte.
use Rattle.std.specs.Prelude.{ℕ, ◌-◌, ◌%◌, cond, List, [], ◌∷◌, ◌++◌, length, take, Some, None, Option, Ok, Err, Result, ◌==◌, slice_index}
use Rattle.frames.specs.declared.refusal.Refusal.{Refusal}
use Rattle.frames.specs.declared.header.Header.{Header}
use Rattle.frames.specs.Headers.{header_in}
use Rattle.frames.specs.Hex.{hex_in}
use Rattle.frames.specs.Joined.{fitting}
use Rattle.showing.specs.declared.gathering.Gathered.{Gathered}

abbrev pub headed : Result (List ℕ) Refusal → Result Header Refusal
headed (Ok os) = header_in os
headed (Err e) = Err e

-- the header of the frame that a line writes in hexadecimal, or the first refusal
abbrev pub shown : List ℕ → Result Header Refusal
shown line = headed (hex_in line)

-- an octet more of a frame, or why there is none
abbrev pub joined : Result (List ℕ) Refusal → Result ℕ Refusal → Result (List ℕ) Refusal
joined frame (Err e) = Err e
joined (Err e) (Ok octet) = Err e
joined (Ok os) (Ok octet) = fitting (os ++ octet ∷ [])

-- the bytes in pairs
abbrev pub whole : List ℕ → List ℕ
whole line = take (length line - length line % 2) line

-- the byte behind them
abbrev pub single : List ℕ → Option ℕ
single line = cond (length line % 2 == 0) None (Some (slice_index line (length line - 1)))

-- a line is kept as the octets of its pairs, and the byte behind them
abbrev pub gathered : List ℕ → Gathered
gathered line = record { frame = hex_in (whole line); first = single line }
