-- A link as a frame: a question of procedure 0 that bears the link's number.
use Rattle.std.specs.Prelude.{◌≡◌, ℕ, true, false, cond, List, [], ◌∷◌, length, Some, None, Ok, Err, Option, Result, nat_lt}
use Rattle.frames.specs.declared.refusal.Refusal.{Refusal}
use Rattle.frames.specs.declared.refusal.Refusal.TheVariants.{LinkTooLong, ValueRange}
use Rattle.frames.specs.Frame.{longest}
use Rattle.building.specs.Building.{question_frame}
use Rattle.sets.specs.Contents.{Contents}
use Rattle.link_building.specs.Wire.{link, link_of, link_at}

abbrev pub link_frame_of : ℕ → Contents → List ℕ
link_frame_of k c = question_frame 0 k (link_of k c)

-- 114 where the set is not sent in so many links, 104 where the frame would be too long
abbrev pub framed_link : ℕ → Option (List ℕ) → Result (List ℕ) Refusal
framed_link k None = Err ValueRange
framed_link k (Some octets) = cond (nat_lt longest (length (question_frame 0 k octets))) (Err LinkTooLong) (Ok (question_frame 0 k octets))

abbrev pub link_frame : ℕ → Contents → Result (List ℕ) Refusal
link_frame k c = framed_link k (link_at k c)

-- E0 00 DC D8 02 80 28 00 01 10 offers RFCI 0 of 40 bits in type 1
abbrev pub Worked : Type 0
Worked =
    question_frame 0 0 (link 0 1 false 1 (record { rfci = 0; ipti = 0; sizes = 40 ∷ []; allowed = true } ∷ []))
    ≡ 0xE0 ∷ 0x00 ∷ 0xDC ∷ 0xD8 ∷ 0x02 ∷ 0x80 ∷ 0x28 ∷ 0x00 ∷ 0x01 ∷ 0x10 ∷ []
