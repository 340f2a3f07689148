-- What a store holds after one frame more, and after one less.
use Rattle.std.proofs.Common.{◌≡◌, ℕ, ◌-◌, ◌<◌, ◌≤◌, true, nat_le, List, [], ◌∷◌, ◌++◌, length, get_or, slice_set, sym, refl, ap, subst, ◌∙◌, arith}
use Rattle.std.specs.List.{AllByRecursion}
use Rattle.std.proofs.lemmas.List.{length-set}
use Rattle.std.proofs.ByRecursion.{All-push, All-from_get_or, All-get_or}
use Rattle.std.proofs.lemmas.Bool.{cond-true}
use Rattle.std.proofs.lemmas.Bool.Decides.{nat_tests}
use Rattle.frames.specs.Frame.{longest}
use Rattle.lines.specs.Meaning.{Framed, EachFramed}
use Rattle.lines.specs.Circle.{place, Turn, gained, lost}
use Rattle.lines.proofs.Turns.{place_below, length_window, window_cut}
use Rattle.cells.specs.Standing.{standing, free}
use Rattle.cells.specs.Moves.{in_use, Kept, put_at, cut}
use Rattle.cells.proofs.Puts.{frames_put}

module _ (cells : List (List ℕ)) (t : Turn) where
  pub all_filled : EachFramed (in_use cells t) → AllByRecursion Framed (in_use cells t)
  all_filled each = All-from_get_or Framed (in_use cells t) [] each

  pub each_filled : AllByRecursion Framed (in_use cells t) → EachFramed (in_use cells t)
  each_filled all k within = All-get_or Framed (in_use cells t) k [] within all

  -- as many frames wait as cells are in use
  pub length-held : length (standing cells t).frames ≡ t.used
  length-held = length_window [] cells t.size t.head t.used

  -- a length that is taken fits a frame, and a cell is free for it
  pub free_cell : (n : ℕ) → free t.size (standing cells t).frames n ≡ true → (1 ≤ n) × (n ≤ longest) × (t.used < t.size)
  free_cell n room = let long = length-held in grind (arith, nat_tests)

module _ (cells : List (List ℕ)) (t : Turn) (at : ℕ) (f : List ℕ) (kept : Kept cells t) (room : t.used < t.size) (is : at ≡ place t.size t.head t.used) where
  pub in_use-put : in_use (slice_set cells at f) (put_at t) ≡ in_use cells t ++ f ∷ []
  in_use-put = frames_put cells t kept.sound (standing cells t) refl kept.round at f f (put_at t) (omega arith) is refl refl

  pub sound-put : Framed f → Kept (slice_set cells at f) (put_at t)
  sound-put framed = record {
    sound = record { wide = length-set cells at f ∙ kept.sound.wide; some = kept.sound.some; few = kept.sound.few };
    round = record { begun = kept.round.begun; within = omega arith };
    filled = each_filled (slice_set cells at f) (put_at t) (subst (AllByRecursion Framed) (sym in_use-put) (All-push Framed (in_use cells t) f (all_filled cells t kept.filled) framed));
  }

  pub held-put : (standing (slice_set cells at f) (put_at t)).frames ≡ (standing cells t).frames ++ f ∷ []
  held-put = in_use-put

module _ (cells : List (List ℕ)) (t : Turn) (at : ℕ) (some : 0 < t.used) (is : at ≡ place t.size t.head 1) where
  pub in_use-cut : in_use cells t ≡ get_or cells t.head [] ∷ in_use cells (cut t at)
  in_use-cut =
      window_cut [] cells t.size t.head t.used some
      ∙ ap (λ p. get_or cells t.head [] ∷ in_use cells (cut t p)) (sym is)

  pub held_cut : (standing cells t).frames ≡ get_or cells t.head [] ∷ (standing cells (cut t at)).frames
  held_cut = in_use-cut

  module _ (kept : Kept cells t) where
    pub sound-cut : Kept cells (cut t at)
    sound-cut =
        let size = kept.sound.some in
        let begun = kept.round.begun in
        let within = kept.round.within in
        let below = place_below t.size t.head 1 (omega arith) (omega arith) in
        record {
          sound = record { wide = kept.sound.wide; some = size; few = kept.sound.few };
          round = record { begun = omega arith; within = omega arith };
          filled = each_filled cells (cut t at) (subst (AllByRecursion Framed) in_use-cut (all_filled cells t kept.filled)).1;
        }

    -- the oldest has 1 to 512 octets
    pub head-filled : Framed (get_or cells t.head [])
    head-filled = (subst (AllByRecursion Framed) in_use-cut (all_filled cells t kept.filled)).0

-- what the places of a store do, where one is free or in use
some_left : (n : ℕ) → 0 < n → nat_le 1 n ≡ true
some_left n h = grind (arith, nat_tests)

pub gained_put : (t : Turn) → t.used < t.size → gained 1 t ≡ put_at t
gained_put t room =
    let left : 0 < t.size - t.used = omega arith in
    cond-true (nat_le 1 (t.size - t.used)) (put_at t) t (some_left (t.size - t.used) left)

pub lost_cut : (t : Turn) → 0 < t.used → lost 1 t ≡ cut t (place t.size t.head 1)
lost_cut t some = cond-true (nat_le 1 t.used) (cut t (place t.size t.head 1)) t (some_left t.used some)
