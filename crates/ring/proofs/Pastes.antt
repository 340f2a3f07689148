-- Rows of octets that are copied into a store or out of it, in one part or, round the end, in two.

use Rattle.std.proofs.Common.{◌≡◌, ℕ, suc, ◌+◌, ◌-◌, ◌<◌, ◌≤◌, ◌⊎◌, List, [], ◌∷◌, ◌++◌, length, get_or, set, take, drop, Some, Option, sym, ap, ◌∙◌, ⊎_elim, append_assoc, arith, drop-drop, rules}
use Rattle.std.specs.Option.{IsSome}
use borrow.Rule.Slice.PartMut.{put_mid}
use Rattle.std.proofs.lemmas.List.{places, get_or-take, get_or-drop, get_or_append_left, get_or-append_right, length-append, length-set, take_at, drop_at}
use Rattle.std.proofs.lemmas.Bool.{cases_lt}
use Rattle.std.proofs.lemmas.Bool.Decides.{nat_tests}
use Rattle.lines.specs.Circle.{place, window, Turn, Round, items_in, gain_at, gained, lose_at, lost}
use Rattle.lines.proofs.Turns.{window_puts, window_is, window-behind, window_push, window_cut, place_more, window_front, length_window, place_below, gain_some, gained_some, lose_some, lost_some}
use Rattle.ring.specs.Round.{Held, held, held_in}

module _ (xs ys : List ℕ) (a k : ℕ) (l : a ≤ length xs) where
  pub mid_below : (p : ℕ) → p < a → get_or (put_mid a k xs ys) p 0 ≡ get_or xs p 0
  mid_below p h = grind (arith, places)

  pub mid_in : (p : ℕ) → a ≤ p → p < a + length ys → get_or (put_mid a k xs ys) p 0 ≡ get_or ys (p - a) 0
  mid_in p h i = grind (arith, places)

  pub mid_above : (p : ℕ) → length ys ≡ k → a + k ≤ p → get_or (put_mid a k xs ys) p 0 ≡ get_or xs p 0
  mid_above p e h = grind (arith, places)

module _ (xs w : List ℕ) (size head n at : ℕ) (h : head < size) (room : n + length w ≤ size) (wide : size ≤ length xs) (is : at ≡ place size head n) where
  -- in one part
  module _ (flat : at + length w ≤ size) where
    flat_apart : (k : ℕ) → k < n → (place size head k < at) ⊎ (at + length w ≤ place size head k)
    flat_apart k l = grind (arith, nat_tests)

    flat_at : (k : ℕ) → k < length w → place size head (n + k) ≡ at + k
    flat_at k l = grind (arith, nat_tests)

    pub window_flat : (m : ℕ) → m ≡ length w → window 0 (put_mid at m xs w) size head (n + length w) ≡ window 0 xs size head n ++ w
    window_flat m e =
        window_puts 0 xs (put_mid at m xs w) w size head n h room
        (λ k l. ⊎_elim (λ b. mid_below xs w at m (omega arith) _ b) (λ a. mid_above xs w at m (omega arith) _ (sym e) (omega arith)) (flat_apart k l))
        (λ k l.
        let p = flat_at k l in
        let back : at + k - at ≡ k = omega arith in
        ap (λ q. get_or (put_mid at m xs w) q 0) p ∙ mid_in xs w at m (omega arith) (at + k) (omega arith) (omega arith) ∙ ap (λ q. get_or w q 0) back)

  -- in two
  module _ (cut : ℕ) (ends : at + cut ≡ size) (more : cut < length w) where
    wrap_apart : (k : ℕ) → k < n → (place size head k < at) × (length w - cut ≤ place size head k)
    wrap_apart k l = grind (arith, nat_tests)

    wrap_first : (k : ℕ) → k < cut → place size head (n + k) ≡ at + k
    wrap_first k l = grind (arith, nat_tests)

    wrap_second : (k : ℕ) → cut ≤ k → k < length w → place size head (n + k) ≡ k - cut
    wrap_second k l m = grind (arith, nat_tests)

    wrap_clear : length w - cut ≤ at
    wrap_clear = grind (arith, nat_tests)

    pub window_wrap : (y₁ y₂ : List ℕ) (m₁ m₂ : ℕ) → y₁ ≡ take (cut - 0) w → y₂ ≡ take (length w - cut) (drop cut w) → m₁ ≡ cut → m₂ ≡ length w - cut
        → window 0 (put_mid 0 m₂ (put_mid at m₁ xs y₁) y₂) size head (n + length w) ≡ window 0 xs size head n ++ w
    window_wrap y₁ y₂ m₁ m₂ e₁ e₂ f₁ f₂ =
        let l₁ : length y₁ ≡ cut = ap length e₁ ∙ search (rules, places) in
        let l₂ : length y₂ ≡ length w - cut = ap length e₂ ∙ search (rules, places) in
        let inner = put_mid at m₁ xs y₁ in
        let clear = wrap_clear in
        window_puts 0 xs (put_mid 0 m₂ inner y₂) w size head n h room
        (λ k l.
        let apart = wrap_apart k l in
        mid_above inner y₂ 0 m₂ (omega arith) _ (omega arith) (omega arith) ∙ mid_below xs y₁ at m₁ (omega arith) _ apart.0)
        (λ k l.
        ⊎_elim
        (λ b.
        let p = wrap_first k b in
        let back : at + k - at ≡ k = omega arith in
        ap (λ q. get_or (put_mid 0 m₂ inner y₂) q 0) p
        ∙ mid_above inner y₂ 0 m₂ (omega arith) (at + k) (omega arith) (omega arith)
        ∙ mid_in xs y₁ at m₁ (omega arith) (at + k) (omega arith) (omega arith)
        ∙ ap (λ q. get_or y₁ q 0) back ∙ ap (λ y. get_or y k 0) e₁ ∙ get_or-take (cut - 0) w k 0 (omega arith))
        (λ a.
        let p = wrap_second k a l in
        let back : cut + (k - cut - 0) ≡ k = omega arith in
        ap (λ q. get_or (put_mid 0 m₂ inner y₂) q 0) p
        ∙ mid_in inner y₂ 0 m₂ (omega arith) (k - cut) (omega arith) (omega arith)
        ∙ ap (λ y. get_or y (k - cut - 0) 0) e₂
        ∙ get_or-take (length w - cut) (drop cut w) (k - cut - 0) 0 (omega arith)
        ∙ get_or-drop cut w (k - cut - 0) 0 ∙ ap (λ q. get_or w q 0) back)
        (cases_lt k cut))

-- A read of the n octets from `head` on, in one part or, round the end, in two.
module _ (xs : List ℕ) (size head n : ℕ) (h : head < size) (few : n ≤ size) (wide : size ≤ length xs) where
  flat_here : head + n ≤ size → (k : ℕ) → k < n → place size head k ≡ head + k
  flat_here flat k l = grind (arith, nat_tests)

  pub part_flat : head + n ≤ size → window 0 xs size head n ≡ take n (drop head xs)
  part_flat flat =
      let long : length (take n (drop head xs)) ≡ n = search (rules, places) in
      ap (window 0 xs size head) (sym long)
      ∙ window_is 0 xs (take n (drop head xs)) size head h (omega arith)
      (λ k l. get_or-take n (drop head xs) k 0 (omega arith) ∙ get_or-drop head xs k 0 ∙ ap (λ p. get_or xs p 0) (sym (flat_here flat k (omega arith))))

  module _ (left : ℕ) (ends : head + left ≡ size) (more : left < n) where
    wrap_here : (k : ℕ) → k < left → place size head k ≡ head + k
    wrap_here k l = grind (arith, nat_tests)

    wrap_there : (k : ℕ) → left ≤ k → place size head k ≡ k - left
    wrap_there k l = grind (arith, nat_tests)

    pub part_wrap : window 0 xs size head n ≡ take left (drop head xs) ++ take (n - left) xs
    part_wrap =
        let a = take left (drop head xs) in
        let b = take (n - left) xs in
        let la : length a ≡ left = search (rules, places) in
        let lb : length b ≡ n - left = search (rules, places) in
        let joined = length-append a b in
        let long : length (a ++ b) ≡ n = omega arith in
        ap (window 0 xs size head) (sym long)
        ∙ window_is 0 xs (a ++ b) size head h (omega arith)
        (λ k l.
        ⊎_elim
        (λ i. get_or_append_left a b 0 k (omega arith) ∙ get_or-take left (drop head xs) k 0 i ∙ get_or-drop head xs k 0 ∙ ap (λ p. get_or xs p 0) (sym (wrap_here k i)))
        (λ i. get_or-append_right a b left k 0 la i ∙ get_or-take (n - left) xs (k - left) 0 (omega arith) ∙ ap (λ p. get_or xs p 0) (sym (wrap_there k i)))
        (cases_lt k left))

-- what two writes at the start of a buffer, one behind the other, leave
pub laid : (out a b : List ℕ) (l m n : ℕ) → length a ≡ l → l + m ≡ n → put_mid l m (a ++ drop l out) b ≡ (a ++ b) ++ drop n out
laid out a b l m n e s =
    ap (λ x. x ++ (b ++ drop m (drop l (a ++ drop l out)))) (take_at a (drop l out) l e)
    ∙ ap (λ x. a ++ (b ++ drop m x)) (drop_at a (drop l out) l e)
    ∙ ap (λ x. a ++ (b ++ x)) (drop-drop m l out ∙ ap (λ k. drop k out) s)
    ∙ sym (append_assoc a b (drop n out))

-- what a turning tells, in the words of what is held
module _ (octets : List ℕ) (t : Turn) (h : Held) (is : held_in octets t ≡ h) where
  pub used_is : t.used ≡ length h.content
  used_is = sym (length_window 0 octets t.size t.head t.used) ∙ ap (λ h. length h.content) is

  -- a place, where n octets more have room
  pub held_gain : (n : ℕ) (r : Option ℕ) → r ≡ gain_at n t → length h.content + n ≤ h.size → IsSome r
  held_gain n r told room =
      let used = used_is in
      let size = ap (λ h. h.size) is in
      gain_some n t r told (omega arith)

  -- and where n are held
  pub held_lose : (n : ℕ) (r : Option ℕ) → r ≡ lose_at n t → n ≤ length h.content → IsSome r
  held_lose n r told some = let used = used_is in lose_some n t r told (omega arith)

  -- the octets without the n oldest
  pub held_drop : (n : ℕ) (r : Option ℕ) (t' : Turn) (at : ℕ) → 1 ≤ t.size → Round t → r ≡ lose_at n t → t' ≡ lost n t → r ≡ Some at → held_in octets t' ≡ held h.size (drop n h.content)
  held_drop n r t' at some round told turns at_is =
      let less = lost_some n t t' r told turns at at_is in
      let begun : t.head < t.size = omega (arith, round.begun) in
      ap (held_in octets) less.2
      ∙ ap (held t.size) (sym (window-behind 0 octets t.size t.head t.used n begun round.within less.0))
      ∙ ap (λ h. held h.size (drop n h.content)) is

-- the turning of a write: what it tells, and where it begins and ends
module _ (octets w : List ℕ) (t t' : Turn) (h : Held) (at end : ℕ) (r : Option ℕ) (is : held_in octets t ≡ h) (some : 1 ≤ t.size) (wide : t.size ≤ length octets) (round : Round t) where
  module _ (told : r ≡ gain_at (length w) t) (turns : t' ≡ gained (length w) t) (at_is : r ≡ Some at) (ends : end ≡ t'.size) where
    behind : (octets' : List ℕ) → window 0 octets' t.size t.head (t.used + length w) ≡ window 0 octets t.size t.head t.used ++ w → held_in octets' t' ≡ held h.size (h.content ++ w)
    behind octets' e =
        let more = gained_some (length w) t t' r told turns round at at_is in
        ap (held_in octets') more.2 ∙ ap (held t.size) e ∙ ap (λ h. held h.size (h.content ++ w)) is

    -- in one part
    pub held_flat : (m : ℕ) (y : List ℕ) → length w ≤ end - at → m ≡ length w → y ≡ w → held_in (put_mid at m octets y) t' ≡ held h.size (h.content ++ w)
    held_flat m y left m_is y_is =
        let more = gained_some (length w) t t' r told turns round at at_is in
        let size = ends ∙ ap (λ u. u.size) more.2 in
        let begun : t.head < t.size = omega (arith, round.begun) in
        let below = place_below t.size t.head t.used begun round.within in
        ap (λ y. held_in (put_mid at m octets y) t') y_is
        ∙ behind (put_mid at m octets w) (window_flat octets w t.size t.head t.used at begun more.0 wide more.1 (omega arith) m m_is)

    -- in two
    pub held_wrap : (y₁ y₂ : List ℕ) (m₁ m₂ : ℕ) → end - at < length w → y₁ ≡ take (end - at - 0) w → y₂ ≡ take (length w - (end - at)) (drop (end - at) w) → m₁ ≡ end - at → m₂ ≡ length w - (end - at)
        → held_in (put_mid 0 m₂ (put_mid at m₁ octets y₁) y₂) t' ≡ held h.size (h.content ++ w)
    held_wrap y₁ y₂ m₁ m₂ left e₁ e₂ f₁ f₂ =
        let more = gained_some (length w) t t' r told turns round at at_is in
        let size = ends ∙ ap (λ u. u.size) more.2 in
        let begun : t.head < t.size = omega (arith, round.begun) in
        let below = place_below t.size t.head t.used begun round.within in
        behind (put_mid 0 m₂ (put_mid at m₁ octets y₁) y₂)
        (window_wrap octets w t.size t.head t.used at begun more.0 wide more.1 (end - at) (omega arith) (omega arith) y₁ y₂ m₁ m₂ e₁ e₂ f₁ f₂)

-- the turning of a read: the n oldest octets, in a buffer
module _ (octets out : List ℕ) (t t' : Turn) (h : Held) (n at end : ℕ) (r : Option ℕ) (is : held_in octets t ≡ h) (some : 1 ≤ t.size) (wide : t.size ≤ length octets) (round : Round t) where
  module _ (told : r ≡ lose_at n t) (turns : t' ≡ lost n t) (at_is : r ≡ Some at) (ends : end ≡ t'.size) where
    -- in one part
    pub out_flat : (y : List ℕ) → n ≤ end - at → y ≡ take (at + n - at) (drop at octets) → y ++ drop (n - 0) out ≡ take n h.content ++ drop n out
    out_flat y left y_is =
        let less = lost_some n t t' r told turns at at_is in
        let size = ends ∙ ap (λ u. u.size) less.2 in
        let first = less.1 in
        let within = round.within in
        let begun : t.head < t.size = omega (arith, round.begun) in
        let front = window_front 0 octets t.size t.head t.used n less.0 in
        let part = part_flat octets t.size t.head n begun (omega arith) wide (omega arith) in
        let many : at + n - at ≡ n = omega arith in
        let all : n - 0 ≡ n = omega arith in
        ap (λ x. x ++ drop (n - 0) out) (y_is ∙ ap (λ k. take k (drop at octets)) many ∙ ap (λ k. take n (drop k octets)) first ∙ sym part ∙ sym front)
        ∙ ap (λ k. take n (window 0 octets t.size t.head t.used) ++ drop k out) all
        ∙ ap (λ h. take n h.content ++ drop n out) is

    -- in two
    pub out_wrap : (a b : List ℕ) (m : ℕ) → end - at < n → a ≡ take (end - at) (drop at octets) → b ≡ take m octets → m ≡ n - (end - at)
        → put_mid (end - at) (n - (end - at)) (a ++ drop (end - at - 0) out) b ≡ take n h.content ++ drop n out
    out_wrap a b m more a_is b_is m_is =
        let less = lost_some n t t' r told turns at at_is in
        let size = ends ∙ ap (λ u. u.size) less.2 in
        let start = less.1 in
        let within = round.within in
        let begun : t.head < t.size = omega (arith, round.begun) in
        let front = window_front 0 octets t.size t.head t.used n less.0 in
        let left = end - at in
        let part = part_wrap octets t.size t.head n begun (omega arith) wide left (omega arith) (omega arith) in
        let first : a ≡ take left (drop t.head octets) = a_is ∙ ap (λ k. take left (drop k octets)) start in
        let second : b ≡ take (n - left) octets = b_is ∙ ap (λ k. take k octets) m_is in
        let far : length a ≡ left = ap length first ∙ search (rules, places) in
        let all : left - 0 ≡ left = omega arith in
        ap (λ k. put_mid left (n - left) (a ++ drop k out) b) all
        ∙ laid out a b left (n - left) n far (omega arith)
        ∙ ap (λ x. x ++ drop n out) (ap (λ x. x ++ b) first ∙ ap (λ x. take left (drop t.head octets) ++ x) second ∙ sym part ∙ sym front)
        ∙ ap (λ h. take n h.content ++ drop n out) is

-- two octets more, behind the others
pub held_write : (octets : List ℕ) (t t' : Turn) (h : Held) (first second high low : ℕ) → 1 ≤ t.size → Round t → t.used + 2 ≤ t.size → t.size ≤ length octets → first ≡ place t.size t.head t.used → second ≡ place t.size t.head (t.used + 1)
    → t' ≡ record { size = t.size; head = t.head; used = t.used + 2 } → held_in octets t ≡ h → held_in (set (set octets first high) second low) t' ≡ held h.size (h.content ++ high ∷ low ∷ [])
held_write octets t t' h first second high low some round room wide first_is second_is turned is =
    let begun : t.head < t.size = omega (arith, round.begun) in
    let one : t.used + 1 ≡ suc t.used = omega arith in
    let two : t.used + 2 ≡ suc (suc t.used) = omega arith in
    let at = place t.size t.head t.used in
    let next = place t.size t.head (suc t.used) in
    let long = length-set octets at high in
    ap (held_in (set (set octets first high) second low)) (turned ∙ ap (λ n. record { size = t.size; head = t.head; used = n }) two)
    ∙ ap (λ p. held t.size (window 0 (set (set octets p high) second low) t.size t.head (suc (suc t.used)))) first_is
    ∙ ap (λ p. held t.size (window 0 (set (set octets at high) p low) t.size t.head (suc (suc t.used)))) (second_is ∙ ap (place t.size t.head) one)
    ∙ ap (held t.size)
    (window_push 0 (set octets at high) t.size t.head (suc t.used) low begun (omega arith) (omega arith)
    ∙ ap (λ w. w ++ low ∷ []) (window_push 0 octets t.size t.head t.used high begun (omega arith) wide)
    ∙ append_assoc (window 0 octets t.size t.head t.used) (high ∷ []) (low ∷ []))
    ∙ ap (λ h. held h.size (h.content ++ high ∷ low ∷ [])) is

-- the two oldest octets, and those behind them
pub held_read : (octets : List ℕ) (t t' : Turn) (h : Held) (first second : ℕ) → 1 ≤ t.size → Round t → 2 ≤ t.used → first ≡ t.head → second ≡ place t.size t.head 1
    → t' ≡ record { size = t.size; head = place t.size t.head 2; used = t.used - 2 } → held_in octets t ≡ h → h ≡ held t'.size (get_or octets first 0 ∷ get_or octets second 0 ∷ items_in 0 octets t')
held_read octets t t' h first second some round used first_is second_is turned is =
    let begun : t.head < t.size = omega (arith, round.begun) in
    let within = round.within in
    let fewer : t.used - 1 - 1 ≡ t.used - 2 = omega arith in
    let next = place t.size t.head 1 in
    sym is
    ∙ ap (held t.size)
    (window_cut 0 octets t.size t.head t.used (omega arith)
    ∙ ap (λ w. get_or octets t.head 0 ∷ w)
    (window_cut 0 octets t.size next (t.used - 1) (omega arith)
    ∙ ap (λ w. get_or octets next 0 ∷ w)
    (ap (λ p. window 0 octets t.size p (t.used - 1 - 1)) (place_more t.size t.head 1 begun (omega arith))
    ∙ ap (window 0 octets t.size (place t.size t.head 2)) fewer)))
    ∙ sym
    (ap (λ t'. held t'.size (get_or octets first 0 ∷ get_or octets second 0 ∷ items_in 0 octets t')) turned
    ∙ ap (λ p. held t.size (get_or octets p 0 ∷ get_or octets second 0 ∷ window 0 octets t.size (place t.size t.head 2) (t.used - 2))) first_is
    ∙ ap (λ p. held t.size (get_or octets t.head 0 ∷ get_or octets p 0 ∷ window 0 octets t.size (place t.size t.head 2) (t.used - 2))) second_is)
