-- What a store of cells stands for, before and after one frame more or less.
use Rattle.std.proofs.Common.{◌≡◌, ℕ, suc, ◌+◌, ◌-◌, ◌<◌, ◌≤◌, true, List, [], ◌∷◌, ◌++◌, length, get_or, slice_set, Option, ◌∙◌, sym, ap, arith, add-one}
use Rattle.std.proofs.lemmas.List.{get_or_default}
use Rattle.std.proofs.lemmas.Bool.Decides.{nat_tests}
use Rattle.lines.specs.Circle.{place, Turn, Round, items_in, lose_at, lost}
use Rattle.lines.proofs.Turns.{window_push, window_cut, length_window}
use Rattle.cells.specs.Standing.{standing, Standing, Sound, free}

module _ (cells : List (List ℕ)) (t : Turn) (sound : Sound cells t) (s : Standing) (is : standing cells t ≡ s) where
  many : length s.frames ≡ t.used
  many = sym (ap (λ s. length s.frames) is) ∙ length_window [] cells t.size t.head t.used

  wide : suc s.more ≡ t.size
  wide = let more = ap (λ s. s.more) is in let some = sound.some in omega arith

  -- where there is room, a cell is free
  pub room_left : (n : ℕ) → free (suc s.more) s.frames n ≡ true → t.used + 1 ≤ t.size
  room_left n room = let long = many in let size = wide in grind (arith, nat_tests)

  module _ (round : Round t) where
    -- a frame more, in the cell behind the others
    pub frames_put : (at : ℕ) (f g : List ℕ) (t' : Turn) → t.used + 1 ≤ t.size → at ≡ place t.size t.head t.used → t' ≡ record { size = t.size; head = t.head; used = t.used + 1 } → f ≡ g → items_in [] (slice_set cells at f) t' ≡ s.frames ++ g ∷ []
    frames_put at f g t' left place_is turned same =
        let begun = round.begun in
        let few = sound.few in
        let all = sound.wide in
        ap (items_in [] (slice_set cells at f)) turned
        ∙ rw (place_is, add-one) (window_push [] cells t.size t.head t.used f (omega arith) (omega arith) (omega arith))
        ∙ ap (λ s. s.frames ++ f ∷ []) is ∙ ap (λ h. s.frames ++ h ∷ []) same

    -- the oldest, whatever stands for a cell that is not there, and those that are left
    pub frames_first : (at : ℕ) (d : List ℕ) → 1 ≤ t.used → at ≡ t.head → s.frames ≡ get_or cells at d ∷ items_in [] cells (record { size = t.size; head = place t.size t.head 1; used = t.used - 1 })
    frames_first at d used first =
        let begun = round.begun in
        let some = sound.some in
        let few = sound.few in
        let all = sound.wide in
        sym (ap (λ s. s.frames) is) ∙ window_cut [] cells t.size t.head t.used used
        ∙ ap (λ f. f ∷ items_in [] cells (record { size = t.size; head = place t.size t.head 1; used = t.used - 1 })) (get_or_default cells t.head [] d (omega arith) ∙ ap (λ k. get_or cells k d) (sym first))

  pub frames_none : t.used < 1 → s.frames ≡ []
  frames_none none =
      let bare : t.used ≡ 0 = omega arith in
      sym (ap (λ s. s.frames) is) ∙ ap (λ n. items_in [] cells (record { size = t.size; head = t.head; used = n })) bare

-- one place is given up, however the one is written
pub lost_one : (n : ℕ) (t t' : Turn) (r : Option ℕ) → r ≡ lose_at n t → t' ≡ lost n t → n ≡ 1 → (r ≡ lose_at 1 t) × (t' ≡ lost 1 t)
lost_one n t t' r told turns one = (told ∙ ap (λ k. lose_at k t) one, turns ∙ ap (λ k. lost k t) one)
