-- What is built is read back.
use Rattle.std.specs.Prelude.{◌≡◌, ℕ, zero, suc, ◌+◌, ◌≤◌, Bool, true, List, ◌++◌, length, Ok, Err, Result}
use Rattle.frames.specs.declared.refusal.Refusal.{Refusal}
use Rattle.frames.specs.declared.data_type.DataType.{DataType}
use Rattle.frames.specs.DataTypes.{data_number}
use Rattle.sets.specs.Rows.{Row, free, Sound}
use Rattle.link_building.specs.Wire.{link, links_of}
use Rattle.link_reading.specs.Links.{Links}
use Rattle.link_reading.specs.Holding.{judged}

-- so many links read one after the other, from link k on; a refusal ends it
unfoldable pub read_all : ℕ → ℕ → (ℕ → List ℕ) → Links → Result Links Refusal
read_all zero k p h = Ok h
read_all (suc c) k p h = elim (judged h k (p k)) [ Ok g ↦ read_all c (k + 1) p g | Err e ↦ Err e ]

-- a set of which every link is held
abbrev pub whole : ℕ → Bool → DataType → List Row → Links
whole n ti type rs =
    record { contents = record { opening = record { subflows = n; timed = ti; data_type = type }; combinations = rs }; versions = 1; links = links_of rs; complete = true }

-- the links of a closed set, each followed by a spare extension of up to 32 octets, read in order give the set back, whatever was held
abbrev pub ReadsBack : Type 0
ReadsBack =
    (n : ℕ) (ti : Bool) (type : DataType) (rs : List Row) → Sound n ti rs → free rs ≡ true
    → (spare : ℕ → List ℕ) → ((k : ℕ) → length (spare k) ≤ 32)
    → (h : Links) → read_all (links_of rs) 0 (λ k. link k n ti (data_number type) rs ++ spare k) h ≡ Ok (whole n ti type rs)
