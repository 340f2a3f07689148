use Rattle.std.proofs.Common.{◌+◌, ◌*◌, ◌%◌, ℕ, refl, ◌∙◌, arith, rules}
use Rattle.std.proofs.lemmas.Iterator.{YieldsList-from_range}
use Rattle.std.proofs.lemmas.Iterator.Consumers.{fold_from_yields_List}
use Rattle.building.specs.Rates.{mark}
use Rattle.building.proofs.Marks.{octet_folded}
use Rattle.building.proofs.rate.mark_octet.Goals as goal

pub returns : goal.returns
returns c =
    let b = c.args.bars.now in
    fold_from_yields_List _ (λ (o k : ℕ). o * 2 % 256 + mark b k) 0 c.fold.result c.fold.ensures.ran (YieldsList-from_range 0 8 8 refl (omega arith)) (λ o k p q h. search rules)
    ∙ octet_folded b
