-- What a client learns from the answer of a line.
use Rattle.std.proofs.Common.{◌≡◌, ℕ, Bool, true, false, List, [], ◌∷◌, ◌++◌, length, take, Option, Result, sym, refl, ap, ◌∙◌, append-nil}
use Rattle.std.proofs.lemmas.List.{take_at}
use Rattle.frames.specs.declared.refusal.Refusal.{Refusal}
use Rattle.lines.specs.Meaning.{Passed, Took, sends, accepted}
use Rattle.lines.specs.Runs.{accepted_in, taken_in}
use Rattle.lines.specs.Runs as call

module _ {L : Type 0} (waiting : L → List (List ℕ)) (l l' : L) where
  -- whatever was passed to a line waits behind the others
  pub passed_waits : (fs : List (List ℕ)) → Passed waiting l l' fs → waiting l' ≡ waiting l ++ fs
  passed_waits [] p = ap waiting p ∙ sym (append-nil (waiting l))
  passed_waits (f ∷ fs) p = p

  -- an accepted frame waits last
  pub put-waits : (b : Bool) (f : List ℕ) (r : Result (Unit {0}) Refusal) → r ≡ accepted b → Passed waiting l l' (sends b f) → waiting l' ≡ waiting l ++ accepted_in (call.put f r)
  put-waits true f r a p = p ∙ ap (λ x. waiting l ++ accepted_in (call.put f x)) (sym a)
  put-waits false f r a p = passed_waits [] p ∙ ap (λ x. waiting l ++ accepted_in (call.put f x)) (sym a)

module _ {L : Type 0} (waiting : L → List (List ℕ)) (takes : L → ℕ → Bool) (l l' : L) (o o' : List ℕ) where
  -- the frame taken, if any, and those that wait behind it waited before
  pub took-waits : (b : Bool) (ws : List (List ℕ)) (r : Result (Option ℕ) Refusal) → waiting l ≡ ws → Took waiting takes b ws l l' o o' r → taken_in (call.take o o' r) ++ waiting l' ≡ ws
  took-waits false ws r w t = ap (λ x. taken_in (call.take o o' x) ++ waiting l') t.answer ∙ ap waiting t.line ∙ w
  took-waits true [] r w t = ap (λ x. taken_in (call.take o o' x) ++ waiting l') t.answer ∙ ap waiting t.line ∙ w
  took-waits true (f ∷ fs) r w t =
      ap (λ x. taken_in (call.take o o' x) ++ waiting l') t.answer
      ∙ ap (λ x. x ∷ waiting l') (ap (take (length f)) t.out ∙ take_at f _ (length f) refl)
      ∙ ap (λ x. f ∷ x) t.waits
