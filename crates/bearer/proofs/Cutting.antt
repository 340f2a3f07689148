-- A delivery is cut as the row says that was looked up.
use Rattle.std.proofs.Common.{◌≡◌, ℕ, eqb, List, [], Some, None, Option, sym, refl, ap, ◌∙◌, arith, eqb-true, slice_get, get_or}
use Rattle.std.proofs.lemmas.List.Quantifiers.{position-Some}
use Rattle.std.proofs.lemmas.Option.{get_or_from_slice_get}
use Rattle.sets.specs.Rows.{Row}
use Rattle.set_in_force.specs.declared.place.Place.{Place}
use Rattle.set_in_force.specs.declared.place.Found.{Found}
use Rattle.set_in_force.specs.Looks.{index_of, told, told_at}
use Rattle.reports.specs.declared.happening.Delivery.{Delivery}
use Rattle.bearer.specs.Ledgers.{Cut}

places_of : Option Found → List Place
places_of None = []
places_of (Some c) = c.places

-- what is looked up is a row with that RFCI
found_at : (rs : List Row) (d : Delivery) (c : Found) (i : ℕ) (o : Option Row) → slice_get rs i ≡ o → index_of d.rfci rs ≡ Some i → told i o ≡ Some c → d.subflows ≡ c.places → Cut rs d
unfolding places_of
found_at rs d c i None there is e same = let z : ◌≡◌ {A = ℕ} 0 1 = cc in absurd (omega arith)
found_at rs d c i (Some row) there is e same =
    let found = position-Some (λ (r : Row). eqb r.rfci d.rfci) rs i row is in
    let here : get_or rs i row ≡ row = get_or_from_slice_get rs i row row there in
    record {
      index = i;
      row = row;
      there = there;
      rfci = sym (ap (λ (r : Row). r.rfci) (sym here) ∙ eqb-true (get_or rs i row).rfci d.rfci found.1);
      subflows = same ∙ sym (ap places_of e);
    }

pub cut_at : (rs : List Row) (d : Delivery) (c : Found) (o : Option ℕ) → index_of d.rfci rs ≡ o → told_at rs o ≡ Some c → d.subflows ≡ c.places → Cut rs d
cut_at rs d c None is e same = let z : ◌≡◌ {A = ℕ} 0 1 = cc in absurd (omega arith)
cut_at rs d c (Some i) is e same = found_at rs d c i (slice_get rs i) refl is e same
