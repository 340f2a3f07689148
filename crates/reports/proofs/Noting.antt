-- What is noted in a report with room, and what it hands over.
use Rattle.std.proofs.Common.{◌≡◌, ℕ, ◌+◌, ◌<◌, ◌≤◌, List, [], ◌∷◌, ◌++◌, length, sym, refl, ap, ◌∙◌, append_assoc, append-nil, length-append, arith}
use Rattle.std.proofs.lemmas.Bool.Decides.{nat_tests}
use Rattle.reports.specs.declared.happening.Happening.{Happening}
use Rattle.reports.specs.declared.happening.Happening.TheVariants.{Started, Ended, Delivered, HandedOver, Refused}
use Rattle.reports.specs.Said.{noted, handed_in, delivered_in}
use Rattle.reports.specs.Effects.{Effect, Did, all_noted}

noted_within : (h : Happening) (r : List Happening) → length r < 4 → noted h r ≡ r ++ h ∷ []
noted_within h r l = grind (arith, nat_tests)

pub all_noted_within : (hs r : List Happening) → length r + length hs ≤ 4 → all_noted hs r ≡ r ++ hs
all_noted_within [] r l = sym (append-nil r)
all_noted_within (h ∷ hs) r l =
    let room : length r < 4 = omega arith in
    ap (all_noted hs) (noted_within h r room)
    ∙ all_noted_within hs (r ++ h ∷ []) (omega (arith, length-append r (h ∷ [])))
    ∙ append_assoc r (h ∷ []) hs

pub handed_in_append : (hs ks : List Happening) → handed_in (hs ++ ks) ≡ handed_in hs ++ handed_in ks
handed_in_append [] ks = refl
handed_in_append (Started k ∷ hs) ks = handed_in_append hs ks
handed_in_append (Ended k c ∷ hs) ks = handed_in_append hs ks
handed_in_append (Delivered d ∷ hs) ks = handed_in_append hs ks
handed_in_append (HandedOver f ∷ hs) ks = ap (λ fs. f ∷ fs) (handed_in_append hs ks)
handed_in_append (Refused f ∷ hs) ks = handed_in_append hs ks

pub delivered_in_append : (hs ks : List Happening) → delivered_in (hs ++ ks) ≡ delivered_in hs ++ delivered_in ks
delivered_in_append [] ks = refl
delivered_in_append (Started k ∷ hs) ks = delivered_in_append hs ks
delivered_in_append (Ended k c ∷ hs) ks = delivered_in_append hs ks
delivered_in_append (Delivered d ∷ hs) ks = ap (λ ds. d ∷ ds) (delivered_in_append hs ks)
delivered_in_append (HandedOver f ∷ hs) ks = delivered_in_append hs ks
delivered_in_append (Refused f ∷ hs) ks = delivered_in_append hs ks

module _ {L : Type 0} (waiting : L → List (List ℕ)) where
  -- a report with room has what the effect says behind what it had
  pub did_say : {S A : Type 0} (f : Effect S A) (s : S) (a : A) (l l' : L) (r r' : List Happening) → Did waiting f s a l l' r r' → length r + length f.says ≤ 4 → r' ≡ r ++ f.says
  did_say f s a l l' r r' d room = d.says ∙ all_noted_within f.says r room
