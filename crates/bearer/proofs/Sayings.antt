-- What is named as done in two parts.
use Rattle.std.proofs.Common.{◌≡◌, ◌&&◌, ◌||◌, List, [], ◌∷◌, ◌++◌, sym, refl, ap, ◌∙◌}
use Rattle.std.proofs.Math.Bool.{or_assoc}
use Rattle.reports.specs.declared.ending.Kind.{Kind}
use Rattle.reports.specs.declared.happening.Happening.{Happening}
use Rattle.reports.specs.declared.happening.Happening.TheVariants.{Started, Ended, Delivered, HandedOver, Refused}
use Rattle.exchange.specs.Books.{same, completes, done_in}

pub done_in-++ : (k : Kind) (s u : List Happening) → done_in k (s ++ u) ≡ (done_in k s || done_in k u)
done_in-++ k [] u = refl
done_in-++ k (Started j ∷ s) u = done_in-++ k s u
done_in-++ k (Ended j c ∷ s) u = ap (λ x. (same j k && completes c) || x) (done_in-++ k s u) ∙ sym (or_assoc (same j k && completes c) (done_in k s) (done_in k u))
done_in-++ k (Delivered n ∷ s) u = done_in-++ k s u
done_in-++ k (HandedOver f ∷ s) u = done_in-++ k s u
done_in-++ k (Refused f ∷ s) u = done_in-++ k s u
