-- The kinds of question: the payload and the frame of each for a number, and whether a further frame follows.
use Rattle.std.specs.Prelude.{ℕ, ◌+◌, Bool, false, ◌&&◌, List, [], ◌∷◌, length, Some, None, Option, nat_le, nat_lt}
use Rattle.std.specs.List.{list_all, range_with_len}
use Rattle.frames.specs.declared.procedure.Procedure.TheVariants.{Initialisation, RateControl, TimeAlignment}
use Rattle.frames.specs.Frame.{longest}
use Rattle.building.specs.Rates.{rate_payload}
use Rattle.sets.specs.Contents.{Contents}
use Rattle.link_building.specs.Wire.{links_of, link_at}
use Rattle.exchange.specs.Asked.{frames_of}

-- the payload of link k of a set; there is none past the last one
abbrev pub link_payload : Option (List ℕ) → List ℕ
link_payload None = []
link_payload (Some p) = p

-- the links of a set, one after the other; a set has at most four
abbrev pub links_asked : Contents → ℕ → List ℕ
links_asked c m = link_payload (link_at m c)

abbrev pub links_frames : Contents → ℕ → List ℕ
links_frames = frames_of Initialisation links_asked

abbrev pub links_follow : Contents → ℕ → Bool
links_follow c m = nat_lt m 3 && nat_lt (m + 1) (links_of c.combinations)

-- the octets of link k: four of header, and the payload
abbrev pub link_length : ℕ → Contents → ℕ
link_length k c = 4 + length (links_asked c k)

-- no link is longer than a frame
abbrev pub links_fit : Contents → Bool
links_fit c = list_all (λ k. nat_le (link_length k c) longest) (range_with_len 0 4)

-- one frame is all
abbrev pub alone : {Q : Type 0} → Q → ℕ → Bool
alone q m = false

-- the marks from RFCI 0 on
abbrev pub rate_asked : List Bool → ℕ → List ℕ
rate_asked bars m = rate_payload bars

abbrev pub rate_frames : List Bool → ℕ → List ℕ
rate_frames = frames_of RateControl rate_asked

-- the octet that asks for a shift
abbrev pub alignment_asked : ℕ → ℕ → List ℕ
alignment_asked octet m = octet ∷ []

abbrev pub alignment_frames : ℕ → ℕ → List ℕ
alignment_frames = frames_of TimeAlignment alignment_asked
