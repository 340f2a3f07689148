-- What the octets of a link say.
use Rattle.std.specs.Prelude.{ℕ, zero, suc, ◌+◌, ◌-◌, ◌*◌, ◌/◌, ◌%◌, Bool, true, cond, List, [], ◌∷◌, length, take, drop, Some, None, Option, ◌==◌, nat_lt, slice_index}
use Rattle.sets.specs.Rows.{Row}
use Rattle.link_reading.specs.declared.coded.Coded.{Coded}
use Rattle.link_reading.specs.declared.fields.Extent.{Extent}
use Rattle.link_reading.specs.declared.fields.Fields.{Fields}

-- the marks in the first octet of a combination
abbrev pub is_last : ℕ → Bool
is_last o = o / 128 % 2 == 1

abbrev pub is_wide : ℕ → Bool
is_wide o = o / 64 % 2 == 1

-- the octets of n sizes
abbrev pub width : ℕ → Bool → ℕ
width n w = cond w (n * 2) n

abbrev pub onward : ℕ → ℕ → Option Extent → Option Extent
onward c k None = None
onward c k (Some e) = Some (record { count = c + e.count; octets = k + e.octets })

-- how many combinations octets begin with, up to the last one, and how many octets they take; none where they are short.
-- A combination has an octet at least, so that as many steps as octets are enough
unfoldable pub extent : ℕ → ℕ → List ℕ → Option Extent
extent zero n os = None
extent (suc f) n [] = None
extent (suc f) n (o ∷ os) =
    cond (nat_lt (length os) (width n (is_wide o))) None
    (cond (is_last o) (Some (record { count = 1; octets = 1 + width n (is_wide o) }))
    (onward 1 (1 + width n (is_wide o)) (extent f n (drop (width n (is_wide o)) os))))

-- a combination in octets: the first, and those of its sizes
pub record Coding : Type 0 where
  pub head : ℕ
  pub sizes : List ℕ

-- the same by what is read of it
abbrev pub coding : Coded → Coding
coding c = record { head = c.head; sizes = c.sizes.now }

-- the combinations that octets begin with, up to the last one, each in its octets; none that is short
unfoldable pub coded : ℕ → ℕ → List ℕ → List Coding
coded zero n os = []
coded (suc f) n [] = []
coded (suc f) n (o ∷ os) =
    cond (nat_lt (length os) (width n (is_wide o))) []
    (record { head = o; sizes = take (width n (is_wide o)) os } ∷ cond (is_last o) [] (coded f n (drop (width n (is_wide o)) os)))

-- the size in the octet or the two octets that it takes
abbrev pub size_of : List ℕ → ℕ
size_of os = cond (length os == 2) (slice_index os 0 * 256 + slice_index os 1) (slice_index os 0)

-- n sizes
unfoldable pub sizes_in : Bool → ℕ → List ℕ → List ℕ
sizes_in w zero os = []
sizes_in w (suc n) os = cond w (slice_index os 0 * 256 + slice_index os 1) (slice_index os 0) ∷ sizes_in w n (drop (cond w 2 1) os)

-- two half octets to an octet
unfoldable pub halves : List ℕ → List ℕ
halves [] = []
halves (o ∷ os) = o / 16 ∷ o % 16 ∷ halves os

-- the first of the rows that octets begin with, with its IPTI
abbrev pub row_in : ℕ → List ℕ → ℕ → Row
row_in n os p = record { rfci = slice_index os 0 % 64; ipti = p; sizes = sizes_in (is_wide (slice_index os 0)) n (drop 1 os); allowed = true }

-- so many rows, with their IPTIs
unfoldable pub rows_in : ℕ → ℕ → List ℕ → List ℕ → List Row
rows_in zero n os hs = []
rows_in (suc c) n os hs = row_in n os (slice_index hs 0) ∷ rows_in c n (drop (1 + width n (is_wide (slice_index os 0))) os) (drop 1 hs)

abbrev pub subflows_of : ℕ → ℕ
subflows_of o = o / 2 % 8

abbrev pub timed_of : ℕ → Bool
timed_of o = o / 16 % 2 == 1

abbrev pub chain_of : ℕ → Bool
chain_of o = o % 2 == 1

-- the octets of so many IPTIs
abbrev pub ipti_octets : Bool → ℕ → ℕ
ipti_octets ti c = cond ti ((c + 1) / 2) 0

-- what stands after the combinations
unfoldable pub ending : ℕ → List ℕ → Option Extent → Option Fields
ending o os None = None
ending o os (Some e) =
    let m = ipti_octets (timed_of o) e.count in
    let rest = drop e.octets os in
    cond (nat_lt (length rest) (m + 3)) None
    (Some (record {
      subflows = subflows_of o;
      timed = timed_of o;
      chain = chain_of o;
      count = e.count;
      place = 1 + e.octets;
      versions = slice_index rest m * 256 + slice_index rest (m + 1);
      kind = slice_index rest (m + 2) / 16;
      over = length rest - (m + 3);
    }))

-- the fields of a payload, but for its rows; none where it is short of them
unfoldable pub fields_of : List ℕ → Option Fields
fields_of [] = None
fields_of (o ∷ os) = ending o os (extent (length os) (subflows_of o) os)

-- the half octets of IPTIs, if there are any
abbrev pub halves_if : Bool → List ℕ → List ℕ
halves_if ti os = cond ti (halves os) []

-- its half octets of IPTIs
abbrev pub halves_from : Bool → ℕ → List ℕ → List ℕ
halves_from ti place os = halves_if ti (drop place os)

-- its rows
abbrev pub rows_of : Fields → List ℕ → List Row
rows_of f os = rows_in f.count f.subflows (drop 1 os) (halves_from f.timed f.place os)
