-- What a report says.
use Rattle.std.specs.Prelude.{ℕ, Bool, true, false, List, [], ◌∷◌, ◌++◌, length, nat_lt, if◌then◌else◌}
use Rattle.reports.specs.declared.happening.Delivery.{Delivery}
use Rattle.reports.specs.declared.happening.Happening.{Happening}
use Rattle.reports.specs.declared.happening.Happening.TheVariants.{Started, Ended, Delivered, HandedOver, Refused}

-- the most that a report names
abbrev pub room_for : ℕ
room_for = 4

-- one thing more is named; a full report stays as it is
abbrev pub noted : Happening → List Happening → List Happening
noted h r = if nat_lt (length r) room_for then r ++ h ∷ [] else r

-- what is named of a sending: whether the line takes it, and its octets
abbrev pub sending : Bool → List ℕ → Happening
sending true f = HandedOver f
sending false f = Refused f

-- what is named of a frame that is offered: its octets, where the line takes it
abbrev pub offered : Bool → List ℕ → List Happening
offered true f = HandedOver f ∷ []
offered false f = []

-- the frames that are named as handed over
abbrev pub handed_in : List Happening → List (List ℕ)
handed_in [] = []
handed_in (Started k ∷ hs) = handed_in hs
handed_in (Ended k c ∷ hs) = handed_in hs
handed_in (Delivered d ∷ hs) = handed_in hs
handed_in (HandedOver f ∷ hs) = f ∷ handed_in hs
handed_in (Refused f ∷ hs) = handed_in hs

-- the user data that is named as delivered
abbrev pub delivered_in : List Happening → List Delivery
delivered_in [] = []
delivered_in (Started k ∷ hs) = delivered_in hs
delivered_in (Ended k c ∷ hs) = delivered_in hs
delivered_in (Delivered d ∷ hs) = d ∷ delivered_in hs
delivered_in (HandedOver f ∷ hs) = delivered_in hs
delivered_in (Refused f ∷ hs) = delivered_in hs
