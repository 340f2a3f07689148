-- The number in a line.
use Rattle.std.specs.Prelude.{ℕ, ◌+◌, ◌-◌, ◌*◌, cond, ◌≡◌, ◌≤◌, ◌&&◌, List, length, Option, Result, MatchResult, fold, nat_lt}
use Rattle.std.specs.Char.{is_ascii_digit}
use Rattle.std.specs.Io.KnownBytes.{Consumes, IsAtEnd, Keeps}

-- one digit more, where there is room for it
abbrev pub counted : ℕ → ℕ → ℕ
counted count byte = cond (is_ascii_digit byte && nat_lt count 10000000) (count * 10 + (byte - 48)) count

-- the digits, the first one highest; other bytes are passed over
abbrev pub count_of : List ℕ → ℕ
count_of bytes = fold counted 0 bytes

-- the count is that of the bytes which one read gave, at most 64, none of them only at the end; where the read failed, the input stays
abbrev pub CountRead : {E : Type 0} → Option (List ℕ) → Option (List ℕ) → Result ℕ E → Type 0
CountRead before after result =
    MatchResult result
    (λ count. (line : List ℕ) × Consumes before after line × (length line ≤ 64) × (length line ≡ 0 → IsAtEnd after) × (count ≡ count_of line))
    (λ e. Keeps before after)
