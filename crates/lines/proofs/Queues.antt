-- What the calls of a store say of a queue, which is the store beside a proof that each of its frames can be one.
use Rattle.std.proofs.Common.{◌≡◌, ℕ, suc, ◌≤◌, Bool, true, false, List, [], ◌∷◌, ◌++◌, length, take, drop, Some, None, Ok, Option, Result, refl, sym, ap, subst, ◌∙◌, append_assoc, arith, rules}
use Rattle.std.proofs.lemmas.Bool.Decides.{nat_tests}
use Rattle.std.proofs.lemmas.List.{places, take-append-drop, drop-append-le}
use Rattle.std.proofs.ByRecursion.{All-push, All-from_get_or, All-get_or}
use Rattle.std.proofs.Props.{props}
use Rattle.frames.specs.declared.refusal.Refusal.{Refusal}
use Rattle.frames.specs.Frame.{longest}
use Rattle.lines.specs.Meaning.{fits, roomy, Framed, EachFramed, sends, Passed, Took}
use Rattle.lines.specs.Stores.{Popped, Queued}

-- a store with one frame more, where there was room, was passed that frame
pub sent : {S : Type 0} (frames : S → List (List ℕ)) (s s' : S) (b : Bool) (f : List ℕ) → true ≡ b → frames s' ≡ frames s ++ f ∷ [] → Passed frames s s' (sends b f)
sent frames s s' b f e p = subst (λ x. Passed frames s s' (sends x f)) e p

-- what goes to the start of a buffer, and leaves the rest of that, leaves the rest of the whole buffer
pub laid : (k : ℕ) (o f : List ℕ) → length f ≤ k → k ≤ length o → (f ++ drop (length f) (take k o)) ++ drop k o ≡ f ++ drop (length f) o
laid k o f short enough =
    let long : length (take k o) ≡ k = search (rules, places) in
    append_assoc f (drop (length f) (take k o)) (drop k o)
    ∙ ap (λ x. f ++ x) (sym (drop-append-le (length f) (take k o) (drop k o) (omega arith)) ∙ ap (drop (length f)) (take-append-drop k o))

-- what goes out of a store with a large buffer, by what waits
module _ {S : Type 0} (frames : S → List (List ℕ)) (s s' : S) (o o' : List ℕ) (r : Result (Option ℕ) Refusal) (enough : longest ≤ length o) where
  large : true ≡ roomy o
  large = grind (arith, nat_tests)

  pub popped_none : frames s ≡ [] → r ≡ Ok None → s' ≡ s → o' ≡ o → Popped frames (roomy o) (frames s) s s' o o' r
  popped_none none a e p =
      let whole : Popped frames true [] s s' o o' r = record { answer = a; line = e; out = p } in
      subst (λ b. Popped frames b (frames s) s s' o o' r) large (subst (λ fs. Popped frames true fs s s' o o' r) (sym none) whole)

  pub popped_first : (f : List ℕ) (fs : List (List ℕ)) → frames s ≡ f ∷ fs → r ≡ Ok (Some (length f)) → frames s' ≡ fs → o' ≡ f ++ drop (length f) o → Popped frames (roomy o) (frames s) s s' o o' r
  popped_first f fs is a e p =
      let whole : Popped frames true (f ∷ fs) s s' o o' r = record { answer = a; left = e; out = p } in
      subst (λ b. Popped frames b (frames s) s s' o o' r) large (subst (λ x. Popped frames true x s s' o o' r) (sym is) whole)

-- that each frame can be one has one proof at most
one_proof : (fs : List (List ℕ)) → IsProp (EachFramed fs)
one_proof fs = hlevel props

framed_of : (f : List ℕ) → fits (length f) ≡ true → Framed f
framed_of f e = grind (arith, nat_tests)

-- the frames after one more are frames
pub pushed : {S : Type 0} (frames : S → List (List ℕ)) (s s' : S) (b : Bool) (f : List ℕ) → (b ≡ true → fits (length f) ≡ true) → Passed frames s s' (sends b f) → EachFramed (frames s) → EachFramed (frames s')
pushed frames s s' true f fit p each =
    subst EachFramed (sym p) (λ k l. All-get_or Framed (frames s ++ f ∷ []) k [] l (All-push Framed (frames s) f (All-from_get_or Framed (frames s) [] each) (framed_of f (fit refl))))
pushed frames s s' false f fit p each = subst (λ t. EachFramed (frames t)) (sym p) each

-- and those after one less
pub popped : {S : Type 0} (frames : S → List (List ℕ)) (s s' : S) (b : Bool) (fs : List (List ℕ)) (o o' : List ℕ) (r : Result (Option ℕ) Refusal) → Popped frames b fs s s' o o' r → frames s ≡ fs → EachFramed (frames s) → EachFramed (frames s')
popped frames s s' false fs o o' r p is each = subst (λ t. EachFramed (frames t)) (sym p.line) each
popped frames s s' true [] o o' r p is each = subst (λ t. EachFramed (frames t)) (sym p.line) each
popped frames s s' true (f ∷ fs) o o' r p is each =
    let all : EachFramed (f ∷ fs) = subst EachFramed is each in
    subst EachFramed (sym p.left) (λ k l. all (suc k) (omega arith))

module _ {S : Type 0} (frames : S → List (List ℕ)) where
  -- the queue that a store is
  abbrev pub queue : (s : S) → EachFramed (frames s) → Queued S
  queue s a = record { store = s; frames = frames s; framed = a }

  module _ (s s' : S) (a : EachFramed (frames s)) (b : EachFramed (frames s')) where
    -- equal stores make equal queues
    same : s' ≡ s → queue s' b ≡ queue s a
    same e = subst (λ t. (c : EachFramed (frames t)) → queue t c ≡ queue s a) (sym e) (λ c. ap (queue s) (one_proof (frames s) c a)) b

    passed : (fs : List (List ℕ)) → Passed frames s s' fs → Passed (λ q. q.frames) (queue s a) (queue s' b) fs
    passed [] p = same p
    passed (f ∷ fs) p = p

    module _ (size : S → ℕ) (room : ℕ → List (List ℕ) → ℕ → Bool) (q : Queued S) (is : queue s a ≡ q) where
      -- what is passed to the store is passed to the queue
      pub put : (f : List ℕ) → Passed frames s s' (sends (room (size s) (frames s) (length f)) f) → Passed (λ q. q.frames) q (queue s' b) (sends (room (size q.store) q.frames (length f)) f)
      put f p = subst (λ t. Passed (λ q. q.frames) t (queue s' b) (sends (room (size t.store) t.frames (length f)) f)) is (passed _ p)

      module _ (freed : (k : ℕ) (f : List ℕ) (fs : List (List ℕ)) (n : ℕ) → room k (f ∷ fs) n ≡ true → room k fs n ≡ true) (sized : size s' ≡ size s) (o o' : List ℕ) (r : Result (Option ℕ) Refusal) where
        popped_to : (large : Bool) (fs : List (List ℕ)) → frames s ≡ fs → Popped frames large fs s s' o o' r → Took (λ q. q.frames) (λ q. room (size q.store) q.frames) large fs (queue s a) (queue s' b) o o' r
        popped_to false fs left p = record { answer = p.answer; line = same p.line; out = p.out }
        popped_to true [] left p = record { answer = p.answer; line = same p.line; out = p.out }
        popped_to true (f ∷ fs) left p = record {
          answer = p.answer;
          waits = p.left;
          out = p.out;
          keeps = λ n e.
              ap (λ k. room k (frames s') n) sized ∙ ap (λ x. room (size s) x n) p.left
              ∙ freed (size s) f fs n (ap (λ x. room (size s) x n) (sym left) ∙ e);
        }

        -- what goes out of the store is taken from the queue
        pub taken : (large : Bool) → Popped frames large (frames s) s s' o o' r → Took (λ q. q.frames) (λ q. room (size q.store) q.frames) large q.frames q (queue s' b) o o' r
        taken large p = subst (λ t. Took (λ q. q.frames) (λ q. room (size q.store) q.frames) large t.frames t (queue s' b) o o' r) is (popped_to large (frames s) refl p)
