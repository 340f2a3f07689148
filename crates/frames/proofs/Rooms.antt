-- Where there is room, one item more is taken.
use Rattle.std.proofs.Common.{◌≡◌, ℕ, ◌<◌, List, [], ◌∷◌, ◌++◌, length, Result, IsOk, Ok, Err, true, nat_lt, refl, sym, ◌∙◌, subst, arith}
use Rattle.std.proofs.lemmas.Bool.{cond-true}
use Rattle.std.proofs.lemmas.Bool.Decides.{nat_tests}
use Rattle.frames.specs.declared.refusal.Refusal.{Refusal}
use Rattle.frames.specs.declared.refusal.Refusal.TheVariants.{TooLong}
use Rattle.frames.specs.Rows.{push_answer, pushed}

below : (n most : ℕ) → n < most → nat_lt n most ≡ true
below n most h = grind (arith, nat_tests)

pub push_room : {A : Type 0} (most : ℕ) (items : List A) (r : Result (Unit {0}) Refusal) → length items < most → r ≡ push_answer most items → IsOk r
push_room most items r h e = subst IsOk (sym (e ∙ cond-true (nat_lt (length items) most) (Ok tt) (Err TooLong) (below (length items) most h))) refl

pub pushed_room : {A : Type 0} (most : ℕ) (item : A) (items new : List A) → length items < most → new ≡ pushed most item items → new ≡ items ++ item ∷ []
pushed_room most item items new h e = e ∙ cond-true (nat_lt (length items) most) (items ++ item ∷ []) items (below (length items) most h)
