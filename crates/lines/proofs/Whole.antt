-- No run of a line loses a frame, makes one up or changes their order.
use Rattle.std.proofs.Common.{◌≡◌, ℕ, Bool, List, ◌++◌, length, sym, refl, ap, ◌∙◌, append_assoc, append-nil}
use Rattle.lines.specs.Meaning.{roomy}
use Rattle.lines.specs.Runs.{Call, put, take, accepted_in, taken_in, in_all, Step, Run, none, first, Conserves}
use Rattle.lines.proofs.Told.{put-waits, took-waits}

module _ {L : Type 0} (waiting : L → List (List ℕ)) (takes : L → ℕ → Bool) where
  step_conserves : (l l' : L) (c : Call) → Step waiting takes l c l' → taken_in c ++ waiting l' ≡ waiting l ++ accepted_in c
  step_conserves l l' (put f r) s = put-waits waiting l l' (takes l (length f)) f r s.0 s.1
  step_conserves l l' (take o o' r) s = took-waits waiting takes l l' o o' (roomy o) (waiting l) r refl s ∙ sym (append-nil (waiting l))

  run_conserves : {l l' : L} {cs : List Call} → Run waiting takes l cs l' → in_all taken_in cs ++ waiting l' ≡ waiting l ++ in_all accepted_in cs
  run_conserves (none {l}) = sym (append-nil (waiting l))
  run_conserves (first {l} {l₁} {l₂} {c} {cs} s r) =
      append_assoc (taken_in c) (in_all taken_in cs) (waiting l₂)
      ∙ ap (λ x. taken_in c ++ x) (run_conserves r)
      ∙ sym (append_assoc (taken_in c) (waiting l₁) (in_all accepted_in cs))
      ∙ ap (λ x. x ++ in_all accepted_in cs) (step_conserves l l₁ c s)
      ∙ append_assoc (waiting l) (accepted_in c) (in_all accepted_in cs)

  pub conserves : (l : L) → Conserves waiting takes l
  conserves l cs l' r = run_conserves r
