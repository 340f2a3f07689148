-- The payload of a rate question: the count of marks, and the marks from RFCI 0 on, eight to an octet, the first one highest.
use Rattle.std.specs.Prelude.{ℕ, zero, suc, ◌+◌, ◌*◌, Bool, false, cond, List, [], ◌∷◌, length, drop, slice_index_or}
use Rattle.building.specs.Building.{question_frame}
use Rattle.frames.specs.Extent.{octets_for}

-- 1 bars, 0 allows; past the last mark is padding
abbrev pub mark : List Bool → ℕ → ℕ
mark bars k = cond (slice_index_or bars k false) 1 0

abbrev pub mark_octet : List Bool → ℕ
mark_octet bars =
    mark bars 0 * 128 + mark bars 1 * 64 + mark bars 2 * 32 + mark bars 3 * 16 + mark bars 4 * 8 + mark bars 5 * 4 + mark bars 6 * 2 + mark bars 7

unfoldable pub mark_octets : ℕ → List Bool → List ℕ
mark_octets zero bars = []
mark_octets (suc n) bars = mark_octet bars ∷ mark_octets n (drop 8 bars)

abbrev pub rate_payload : List Bool → List ℕ
rate_payload bars = length bars ∷ mark_octets (octets_for (length bars)) bars

-- procedure 1
abbrev pub rate_frame : (number : ℕ) → List Bool → List ℕ
rate_frame number bars = question_frame 1 number (rate_payload bars)
