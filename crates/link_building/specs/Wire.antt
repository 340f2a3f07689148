-- The links of a set as octets.
use Rattle.std.specs.Prelude.{ℕ, ◌+◌, ◌*◌, ◌/◌, ◌%◌, Bool, cond, List, [], ◌∷◌, ◌++◌, length, take, drop, Some, None, Option, ◌==◌, nat_lt}
use Rattle.std.specs.List.{list_any}
use Rattle.frames.specs.DataTypes.{data_number}
use Rattle.sets.specs.Rows.{Row}
use Rattle.sets.specs.Contents.{Contents}

-- whether a size needs two octets
unfoldable pub wide : List ℕ → Bool
wide ss = list_any (λ s. nat_lt 255 s) ss

-- a size, of two octets where the combination is wide
unfoldable pub size_octets : Bool → ℕ → List ℕ
size_octets w s = cond w (s / 256 ∷ s % 256 ∷ []) (s ∷ [])

unfoldable pub sizes_octets : Bool → List ℕ → List ℕ
sizes_octets w [] = []
sizes_octets w (s ∷ ss) = size_octets w s ++ sizes_octets w ss

-- LRI, LI and the number, then the sizes
unfoldable pub combination : Bool → ℕ → List ℕ → List ℕ
combination last rfci ss = (cond last 128 0 + cond (wide ss) 64 0 + rfci) ∷ sizes_octets (wide ss) ss

-- the combinations of a link
unfoldable pub combinations : List Row → List ℕ
combinations [] = []
combinations (r ∷ rs) = combination (length rs == 0) r.rfci r.sizes ++ combinations rs

-- the IPTIs of a link, two to an octet
unfoldable pub nibbles : List Row → List ℕ
nibbles [] = []
nibbles (r ∷ []) = r.ipti * 16 ∷ []
nibbles (r ∷ (s ∷ rs)) = (r.ipti * 16 + s.ipti) ∷ nibbles rs

-- the payload of a link: TI, N and the chain bit; the combinations; their IPTIs; versions 00 01; the data PDU type
unfoldable pub payload : ℕ → Bool → ℕ → Bool → List Row → List ℕ
payload n ti type chain rs =
    (cond ti 16 0 + n * 2 + cond chain 1 0) ∷ (combinations rs ++ (cond ti (nibbles rs) [] ++ (0 ∷ 1 ∷ type * 16 ∷ [])))

-- the same by what the rows of a link and the set's opening values say
abbrev pub payload_of : Bool → Contents → List ℕ
payload_of chain c = payload c.opening.subflows c.opening.timed (data_number c.opening.data_type) chain c.combinations

-- some rows, from a place on
abbrev pub part : ℕ → ℕ → List Row → List Row
part from count rs = take count (drop from rs)

-- link k of a set, with eight rows or what is left of them
abbrev pub link : ℕ → ℕ → Bool → ℕ → List Row → List ℕ
link k n ti type rs = payload n ti type (nat_lt (8 * k + 8) (length rs)) (part (8 * k) 8 rs)

-- the links that a set is sent in
abbrev pub links_of : List Row → ℕ
links_of rs = (length rs + 7) / 8

-- the same by what a set says
abbrev pub link_of : ℕ → Contents → List ℕ
link_of k c = link k c.opening.subflows c.opening.timed (data_number c.opening.data_type) c.combinations

-- link k of a set, if it is sent in so many
abbrev pub link_at : ℕ → Contents → Option (List ℕ)
link_at k c = cond (nat_lt k (links_of c.combinations)) (Some (link_of k c)) None

-- the part of a set that link k bears
abbrev pub part_of : ℕ → Contents → Option Contents
part_of k c = cond (nat_lt k (links_of c.combinations)) (Some (record { opening = c.opening; combinations = part (8 * k) 8 c.combinations })) None
