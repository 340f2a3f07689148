-- One exchange of any kind, and its books.
use Rattle.std.proofs.Common.{◌≡◌, ℕ, ◌+◌, ◌-◌, ◌*◌, ◌<◌, ◌≤◌, cond, eqb, List, [], ◌∷◌, ◌++◌, Some, None, Option, sym, refl, ap, ◌∙◌, subst, mul-le-mul_right, add-mul, one-mul, arith, eq-eqb, ne_eqb}
use Rattle.exchange.specs.declared.exchange.Exchange.{Exchange}
use Rattle.exchange.specs.Books.{Mark, opened, announced, closed, asked, waited, Books, count, blank, waits_on, wait_on, enter, entered, Kept}

-- an exchange without its question: the ticks that are left, how often the present frame was repeated, and its number
pub record Watch : Type 0 where
  pub ticks : ℕ
  pub repeats : ℕ
  pub number : ℕ

abbrev pub watch : {Q : Type 0} → Exchange Q → Watch
watch e = record { ticks = e.ticks; repeats = e.repeats; number = e.number }

abbrev pub watched : {Q : Type 0} → Option (Exchange Q) → Option Watch
watched None = None
watched (Some e) = Some (watch e)

abbrev pub fresh : ℕ → ℕ → Watch
fresh t number = record { ticks = t; repeats = 0; number = number }

abbrev pub repeated : ℕ → Watch → Watch
repeated t a = record { ticks = t; repeats = a.repeats + 1; number = a.number }

abbrev pub less : Watch → Watch
less a = record { ticks = a.ticks - 1; repeats = a.repeats; number = a.number }

room : (r n t : ℕ) → r ≤ n → (r + 1) * t ≤ (1 + n) * t
room r n t h = let k : r + 1 ≤ 1 + n = omega arith in mul-le-mul_right t k

grows : (r t : ℕ) → (r + 1 + 1) * t ≡ (r + 1) * t + t
grows r t = add-mul (r + 1) 1 t ∙ ap (λ x. (r + 1) * t + x) (one-mul t)

once : (r t : ℕ) → r ≡ 0 → (r + 1) * t ≡ t
once r t e = ap (λ x. (x + 1) * t) e ∙ one-mul t

counted : (m : ℕ) (xs : List ℕ) → count m (m ∷ xs) ≡ 1 + count m xs
counted m xs = rw (eq-eqb m m refl)

passed : (x m : ℕ) (xs : List ℕ) → x < m → count m (x ∷ xs) ≡ count m xs
passed x m xs h = rw (ne_eqb x m (omega arith))

-- a repeated number is waited on for longer, another from now on
still : (m w : ℕ) (o : Option ℕ) → o ≡ Some m → waits_on m o w ≡ w
still m w o e = ap (λ x. waits_on m x w) e ∙ ap (λ b. cond b w 0) (eq-eqb m m refl)

anew : (m x w : ℕ) (o : Option ℕ) → o ≡ Some x → x < m → waits_on m o w ≡ 0
anew m x w o e h = ap (λ y. waits_on m y w) e ∙ ap (λ b. cond b w 0) (ne_eqb m x (omega arith))

-- no fault while one runs
sound : (r : ℕ) → r ≡ 1 → cond {A = ℕ} (eqb r 0) 1 0 ≡ 0
sound r e = ap (λ x. cond {A = ℕ} (eqb x 0) 1 0) e

module _ (t n : ℕ) where
  -- the books of an exchange that runs
  pub record Running (a : Watch) (b : Books) : Type 0 where
    pub one : b.running ≡ 1
    pub latest : b.number ≡ Some a.number
    pub many : count a.number b.sent ≡ a.repeats + 1
    pub later : (m : ℕ) → a.number < m → count m b.sent ≡ 0
    pub time : b.waits + a.ticks ≤ (a.repeats + 1) * t
    pub few : a.repeats ≤ n
    pub kept : Kept t n b

  pub record Idle (b : Books) : Type 0 where
    pub none : b.running ≡ 0
    pub unasked : b.number ≡ None
    pub kept : Kept t n b

  abbrev pub Booked : Option Watch → Books → Type 0
  Booked None b = Idle b
  Booked (Some a) b = (1 ≤ a.ticks) × Running a b

  opening : (a : Watch) (b : Books) → a.ticks ≡ t → a.repeats ≡ 0 → Idle b → Running a (enter (asked a.number) (enter announced (enter opened b)))
  opening a b ticks zero h =
      let was : cond {A = ℕ} (eqb b.running 0) 0 1 ≡ 0 = ap (λ x. cond {A = ℕ} (eqb x 0) 0 1) h.none in
      let is : cond {A = ℕ} (eqb (b.running + 1) 0) 1 0 ≡ 0 = ap (λ x. cond {A = ℕ} (eqb (x + 1) 0) 1 0) h.none in
      let full = once a.repeats t zero in
      let first = counted a.number [] in
      let k = h.kept.balanced in
      let w = h.kept.bounded in
      record {
        one = omega arith;
        latest = refl;
        many = omega arith;
        later = λ m lt. passed a.number m [] lt;
        time = omega arith;
        few = omega arith;
        kept = record {
          balanced = record { faultless = omega arith; balance = omega arith; single = omega arith; told = omega arith };
          bounded = record { sendings = omega arith; waiting = w.waiting };
        };
      }

  down : (a : Watch) (b : Books) → 1 ≤ a.ticks → Running a b → Running (less a) (enter waited b)
  down a b more h =
      let limit = room a.repeats n t h.few in
      let w = h.kept.bounded in
      subst (λ o. Running (less a) (wait_on o b)) (sym h.latest)
      (record {
        one = h.one;
        latest = h.latest;
        many = h.many;
        later = h.later;
        time = omega arith;
        few = h.few;
        kept = record {
          balanced = record { faultless = h.kept.balanced.faultless; balance = h.kept.balanced.balance; single = h.kept.balanced.single; told = h.kept.balanced.told };
          bounded = record { sendings = w.sendings; waiting = omega arith };
        };
      })

  again : (a : Watch) (b : Books) → a.repeats < n → Running a b → Running (repeated t a) (enter (asked a.number) b)
  again a b less-n h =
      let k = h.kept.balanced in
      let w = h.kept.bounded in
      let on = still a.number b.waits b.number h.latest in
      let more = grows a.repeats t in
      let fine = sound b.running h.one in
      let one_more = counted a.number b.sent in
      record {
        one = h.one;
        latest = refl;
        many = one_more ∙ omega arith;
        later = λ m lt. passed a.number m b.sent lt ∙ h.later m lt;
        time = omega arith;
        few = omega arith;
        kept = record {
          balanced = record { faultless = omega arith; balance = k.balance; single = k.single; told = k.told };
          bounded = record { sendings = omega arith; waiting = w.waiting };
        };
      }

  onward : (a : Watch) (b : Books) → Running a b → Running (fresh t (a.number + 1)) (enter (asked (a.number + 1)) b)
  onward a b h =
      let k = h.kept.balanced in
      let w = h.kept.bounded in
      let m' = a.number + 1 in
      let before = h.later m' (omega arith) in
      let from-now = anew m' a.number b.waits b.number h.latest (omega arith) in
      let fine = sound b.running h.one in
      let first = counted m' b.sent in
      let full = once 0 t refl in
      record {
        one = h.one;
        latest = refl;
        many = omega arith;
        later = λ m lt. passed m' m b.sent lt ∙ h.later m (omega arith);
        time = omega arith;
        few = omega arith;
        kept = record {
          balanced = record { faultless = omega arith; balance = k.balance; single = k.single; told = k.told };
          bounded = record { sendings = omega arith; waiting = w.waiting };
        };
      }

  closing : (a : Watch) (b : Books) → Running a b → Idle (enter closed b)
  closing a b h =
      let k = h.kept.balanced in
      let w = h.kept.bounded in
      let fine = sound b.running h.one in
      record {
        none = omega arith;
        unasked = refl;
        kept = record {
          balanced = record { faultless = omega arith; balance = omega arith; single = omega arith; told = k.told };
          bounded = record { sendings = w.sendings; waiting = w.waiting };
        };
      }

  idling : (b : Books) → Idle b → Idle (enter waited b)
  idling b h = subst (λ o. Idle (wait_on o b)) (sym h.unasked) h

  -- what a call may do with one exchange, and what the books then take note of
  pub data Move : Option Watch → List Mark → Option Watch → Type 0 where
    stays : {o : Option Watch} → Move o [] o
    idles : Move None (waited ∷ []) None
    begins : {a : Watch} → a.ticks ≡ t → a.repeats ≡ 0 → Move None (opened ∷ announced ∷ asked a.number ∷ []) (Some a)
    waits : {a : Watch} → 1 < a.ticks → Move (Some a) (waited ∷ []) (Some (less a))
    lapses : {a : Watch} → a.repeats < n → Move (Some a) (waited ∷ asked a.number ∷ []) (Some (repeated t a))
    expires : {a : Watch} → Move (Some a) (waited ∷ closed ∷ []) None
    repeats : {a : Watch} → a.repeats < n → Move (Some a) (asked a.number ∷ []) (Some (repeated t a))
    advances : {a : Watch} → Move (Some a) (asked (a.number + 1) ∷ []) (Some (fresh t (a.number + 1)))
    closes : {a : Watch} → Move (Some a) (closed ∷ []) None

  pub moved : {o o' : Option Watch} {ms : List Mark} (b : Books) → 1 ≤ t → Move o ms o' → Booked o b → Booked o' (entered ms b)
  moved b low stays h = h
  moved b low idles h = idling b h
  moved b low (begins {a} ticks zero) h = (omega arith, opening a b ticks zero h)
  moved b low (waits {a} more) h = (omega arith, down a b h.0 h.1)
  moved b low (lapses {a} few) h = (low, again (less a) _ few (down a b h.0 h.1))
  moved b low (expires {a}) h = closing (less a) _ (down a b h.0 h.1)
  moved b low (repeats {a} few) h = (low, again a b few h.1)
  moved b low (advances {a}) h = (low, onward a b h.1)
  moved b low (closes {a}) h = closing a b h.1

  pub kept : (o : Option Watch) (b : Books) → Booked o b → Kept t n b
  kept None b h = h.kept
  kept (Some a) b h = h.1.kept

  pub blank_idle : Idle blank
  blank_idle =
      record {
        none = refl;
        unasked = refl;
        kept = record {
          balanced = record { faultless = refl; balance = refl; single = omega arith; told = refl };
          bounded = record { sendings = omega arith; waiting = omega arith };
        };
      }

pub entered-++ : (ms ns : List Mark) (b : Books) → entered (ms ++ ns) b ≡ entered ns (entered ms b)
entered-++ [] ns b = refl
entered-++ (m ∷ ms) ns b = entered-++ ms ns (enter m b)
