-- What a write behind a window, and a step of its head, leave.
use Rattle.std.proofs.Common.{◌≡◌, ℕ, zero, suc, ◌+◌, ◌-◌, ◌<◌, ◌≤◌, ◌≢◌, Bool, true, false, cond, List, [], ◌∷◌, ◌++◌, length, get_or, take, drop, set, Some, None, Option, nat_le, sym, refl, ap, subst, ◌∙◌, ⊎_elim, arith}
use Rattle.std.specs.Option.{is_some, IsSome}
use Rattle.std.proofs.lemmas.List.{get_or-set_same, get_or-set_other, ext_get_or, get_or_append_left, get_or-append_right, length-append}
use Rattle.std.proofs.lemmas.Bool.{cases_lt}
use Rattle.std.proofs.lemmas.Bool.Decides.{nat_tests}
use Rattle.lines.specs.Circle.{place, window, Turn, Round, gain_at, gained, lose_at, lost}

pub place-0 : (size head : ℕ) → head < size → place size head 0 ≡ head
place-0 size head h = grind (arith, nat_tests)

pub place_below : (size head k : ℕ) → head < size → k ≤ size → place size head k < size
place_below size head k h l = grind (arith, nat_tests)

pub place_more : (size head k : ℕ) → head < size → k < size → place size (place size head 1) k ≡ place size head (suc k)
place_more size head k h l = grind (arith, nat_tests)

pub place_apart : (size head k : ℕ) → head < size → suc k < size → head ≢ place size head (suc k)
place_apart size head k h l = grind (arith, nat_tests)

module _ {X : Type 0} (d : X) (xs : List X) (size : ℕ) where
  -- one item more, at the end
  pub window_more : (n head : ℕ) → head < size → n < size → window d xs size head (suc n) ≡ window d xs size head n ++ get_or xs (place size head n) d ∷ []
  window_more zero head h l = ap (λ p. get_or xs p d ∷ []) (sym (place-0 size head h))
  window_more (suc n) head h l =
      ap (λ w. get_or xs head d ∷ w)
      (window_more n (place size head 1) (place_below size head 1 h (omega arith)) (omega arith)
      ∙ ap (λ p. window d xs size (place size head 1) n ++ get_or xs p d ∷ []) (place_more size head n h (omega arith)))

  -- a write behind the window does not touch it
  pub window-set : (n m head : ℕ) (v : X) → head < size → n ≤ m → m < size → window d (set xs (place size head m) v) size head n ≡ window d xs size head n
  window-set zero m head v h l k = refl
  window-set (suc n) zero head v h l k = absurd (omega arith)
  window-set (suc n) (suc m) head v h l k =
      let apart : head ≢ place size head (suc m) = place_apart size head m h k in
      let below = place_below size head 1 h (omega arith) in
      let rest : window d (set xs (place size (place size head 1) m) v) size (place size head 1) n ≡ window d xs size (place size head 1) n = window-set n m (place size head 1) v below (omega arith) (omega arith) in
      let moved = rw (place_more size head m h (omega arith)) at rest in
      ap (λ x. x ∷ window d (set xs (place size head (suc m)) v) size (place size head 1) n) (get_or-set_other xs (place size head (suc m)) head v d apart)
      ∙ ap (λ w. get_or xs head d ∷ w) moved

-- a write at the place behind the window adds one item to it
pub window_push : {X : Type 0} (d : X) (xs : List X) (size head n : ℕ) (v : X) → head < size → n < size → size ≤ length xs → window d (set xs (place size head n) v) size head (suc n) ≡ window d xs size head n ++ v ∷ []
window_push d xs size head n v h l k =
    let below = place_below size head n h (omega arith) in
    window_more d (set xs (place size head n) v) size n head h l
    ∙ ap (λ w. w ++ get_or (set xs (place size head n) v) (place size head n) d ∷ []) (window-set d xs size n n head v h (omega arith) l)
    ∙ ap (λ x. window d xs size head n ++ x ∷ []) (get_or-set_same xs (place size head n) v d (omega arith))

pub length_window : {X : Type 0} (d : X) (xs : List X) (size head n : ℕ) → length (window d xs size head n) ≡ n
length_window d xs size head zero = refl
length_window d xs size head (suc n) = ap suc (length_window d xs size (place size head 1) n)

-- the oldest item, and the window behind it
pub window_cut : {X : Type 0} (d : X) (xs : List X) (size head n : ℕ) → 0 < n → window d xs size head n ≡ get_or xs head d ∷ window d xs size (place size head 1) (n - 1)
window_cut d xs size head n some =
    let one : n ≡ suc (n - 1) = omega arith in
    ap (window d xs size head) one

-- an item of the window
pub get_or-window : {X : Type 0} (d : X) (xs : List X) (size head n k : ℕ) → head < size → n ≤ size → k < n → get_or (window d xs size head n) k d ≡ get_or xs (place size head k) d
get_or-window d xs size head zero k h l i = absurd (omega arith)
get_or-window d xs size head (suc n) zero h l i = ap (λ p. get_or xs p d) (sym (place-0 size head h))
get_or-window d xs size head (suc n) (suc k) h l i =
    get_or-window d xs size (place size head 1) n k (place_below size head 1 h (omega arith)) (omega arith) (omega arith)
    ∙ ap (λ p. get_or xs p d) (place_more size head k h (omega arith))

-- a write of many items behind the window, given place by place
pub window_puts : {X : Type 0} (d : X) (xs ys w : List X) (size head n : ℕ) → head < size → n + length w ≤ size
    → ((k : ℕ) → k < n → get_or ys (place size head k) d ≡ get_or xs (place size head k) d)
    → ((k : ℕ) → k < length w → get_or ys (place size head (n + k)) d ≡ get_or w k d)
    → window d ys size head (n + length w) ≡ window d xs size head n ++ w
window_puts d xs ys w size head n h l old new =
    ext_get_or d (window d ys size head (n + length w)) (window d xs size head n ++ w)
    (length_window d ys size head (n + length w) ∙ sym (length-append (window d xs size head n) w ∙ ap (λ m. m + length w) (length_window d xs size head n)))
    (λ i g.
    let long = length_window d ys size head (n + length w) in
    let short = length_window d xs size head n in
    get_or-window d ys size head (n + length w) i h l (omega arith)
    ∙ ⊎_elim
    (λ below. old i below ∙ sym (get_or-window d xs size head n i h (omega arith) below) ∙ sym (get_or_append_left (window d xs size head n) w d i (omega arith)))
    (λ above.
    let is : n + (i - n) ≡ i = omega arith in
    ap (λ j. get_or ys (place size head j) d) (sym is) ∙ new (i - n) (omega arith) ∙ sym (get_or-append_right (window d xs size head n) w n i d short above))
    (cases_lt i n))

-- the first k items
pub window_front : {X : Type 0} (d : X) (xs : List X) (size head n k : ℕ) → k ≤ n → take k (window d xs size head n) ≡ window d xs size head k
window_front d xs size head n zero l = refl
window_front d xs size head zero (suc k) l = absurd (omega arith)
window_front d xs size head (suc n) (suc k) l = ap (λ w. get_or xs head d ∷ w) (window_front d xs size (place size head 1) n k (omega arith))

-- those behind them
pub window-behind : {X : Type 0} (d : X) (xs : List X) (size head n k : ℕ) → head < size → n ≤ size → k ≤ n → drop k (window d xs size head n) ≡ window d xs size (place size head k) (n - k)
window-behind d xs size head n zero h m l =
    let whole : n - 0 ≡ n = omega arith in
    ap (λ p. window d xs size p n) (sym (place-0 size head h)) ∙ ap (window d xs size (place size head 0)) (sym whole)
window-behind d xs size head zero (suc k) h m l = absurd (omega arith)
window-behind d xs size head (suc n) (suc k) h m l =
    let fewer : suc n - suc k ≡ n - k = omega arith in
    window-behind d xs size (place size head 1) n k (place_below size head 1 h (omega arith)) (omega arith) (omega arith)
    ∙ ap (λ p. window d xs size p (n - k)) (place_more size head k h (omega arith))
    ∙ ap (window d xs size (place size head (suc k))) (sym fewer)

-- a list that has, place by place, the items from `head` on
pub window_is : {X : Type 0} (d : X) (xs w : List X) (size head : ℕ) → head < size → length w ≤ size
    → ((k : ℕ) → k < length w → get_or w k d ≡ get_or xs (place size head k) d)
    → window d xs size head (length w) ≡ w
window_is d xs w size head h l same =
    let long = length_window d xs size head (length w) in
    ext_get_or d (window d xs size head (length w)) w long
    (λ k i. get_or-window d xs size head (length w) k h l (omega arith) ∙ sym (same k (omega arith)))

-- a call that changes the places, and tells one, where a test holds: what its answer says of the test
unchanged : (b : Bool) (x : ℕ) (t u t' : Turn) (r : Option ℕ) → r ≡ cond b (Some x) None → t' ≡ cond b u t → false ≡ is_some r → (b ≡ false) × (t' ≡ t)
unchanged true x t u t' r told turns none = let no = none ∙ ap is_some told in absurd cc
unchanged false x t u t' r told turns none = (refl, turns)

changed : (b : Bool) (x : ℕ) (t u t' : Turn) (r : Option ℕ) → r ≡ cond b (Some x) None → t' ≡ cond b u t → (at : ℕ) → r ≡ Some at → (b ≡ true) × (at ≡ x) × (t' ≡ u)
changed true x t u t' r told turns at some = let is = sym some ∙ told in (refl, cc, turns)
changed false x t u t' r told turns at some = let is = sym some ∙ told in absurd cc

module _ (n : ℕ) (t t' : Turn) (r : Option ℕ) (told : r ≡ gain_at n t) (turns : t' ≡ gained n t) where
  -- no place is told where too few are free, and nothing changes
  pub gained_none : false ≡ is_some r → (t.size < t.used + n) × (t' ≡ t)
  gained_none none =
      let is = unchanged (nat_le n (t.size - t.used)) (place t.size t.head t.used) t _ t' r told turns none in
      let few = is.0 in
      (grind (arith, nat_tests), is.1)

  -- where one is told, n places were free
  pub gained_some : Round t → (at : ℕ) → r ≡ Some at → (t.used + n ≤ t.size) × (at ≡ place t.size t.head t.used) × (t' ≡ record { size = t.size; head = t.head; used = t.used + n })
  gained_some round at some =
      let is = changed (nat_le n (t.size - t.used)) (place t.size t.head t.used) t _ t' r told turns at some in
      let enough = is.0 in
      let within = round.within in
      (grind (arith, nat_tests), is.1, is.2)

module _ (n : ℕ) (t t' : Turn) (r : Option ℕ) (told : r ≡ lose_at n t) (turns : t' ≡ lost n t) where
  -- no place is told where too few are in use, and nothing changes
  pub lost_none : false ≡ is_some r → (t.used < n) × (t' ≡ t)
  lost_none none =
      let is = unchanged (nat_le n t.used) t.head t _ t' r told turns none in
      let few = is.0 in
      (grind (arith, nat_tests), is.1)

  -- where one is told, n were in use
  pub lost_some : (at : ℕ) → r ≡ Some at → (n ≤ t.used) × (at ≡ t.head) × (t' ≡ record { size = t.size; head = place t.size t.head n; used = t.used - n })
  lost_some at some =
      let is = changed (nat_le n t.used) t.head t _ t' r told turns at some in
      let enough = is.0 in
      (grind (arith, nat_tests), is.1, is.2)

-- where n places are free, one is told
pub gain_some : (n : ℕ) (t : Turn) (r : Option ℕ) → r ≡ gain_at n t → t.used + n ≤ t.size → IsSome r
gain_some n t r told left =
    let enough : nat_le n (t.size - t.used) ≡ true = grind (arith, nat_tests) in
    subst IsSome (sym (told ∙ ap (λ b. cond b (Some (place t.size t.head t.used)) None) enough)) refl

-- where n are in use, one is told
pub lose_some : (n : ℕ) (t : Turn) (r : Option ℕ) → r ≡ lose_at n t → n ≤ t.used → IsSome r
lose_some n t r told used =
    let enough : nat_le n t.used ≡ true = grind (arith, nat_tests) in
    subst IsSome (sym (told ∙ ap (λ b. cond b (Some t.head) None) enough)) refl
