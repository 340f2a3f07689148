-- The packed form, read back.
use Rattle.std.proofs.Common.{◌≡◌, ℕ, zero, suc, ◌+◌, ◌*◌, ◌/◌, ◌%◌, ◌≤◌, true, List, [], ◌∷◌, ◌++◌, length, take, drop, Some, Ok, sym, refl, ap, ◌∙◌, subst, append_assoc, append-nil, div-add-mod', arith, rules, length-append}
use Rattle.std.specs.List.{AllByRecursion}
use Rattle.std.proofs.lemmas.List.{places, take_at, drop_at}
use Rattle.std.proofs.ByRecursion.{All-push, All-from_get_or, All-get_or}
use Rattle.std.proofs.lemmas.Bool.Decides.{nat_tests}
use Rattle.frames.specs.Frame.{longest}
use Rattle.lines.specs.Meaning.{Framed, EachFramed, roomy}
use Rattle.lines.proofs.Queues.{popped_first, laid}
use Rattle.lines.specs.Stores.{Popped}
use Rattle.ring.specs.Round.{least, Held, held}
use Rattle.ring.specs.Packed.{packed, unpacked, frames_in, Standing, standing, Sound, cost, room}

unpacked_none : (n : ℕ) → unpacked n [] ≡ []
unpacked_none zero = refl
unpacked_none (suc n) = refl

-- what was packed is read back
unpacked-packed : (fs : List (List ℕ)) (n : ℕ) → length fs ≤ n → unpacked n (packed fs) ≡ fs
unpacked-packed [] n h = unpacked_none n
unpacked-packed (f ∷ fs) zero h = absurd (omega arith)
unpacked-packed (f ∷ fs) (suc n) h =
    let is = div-add-mod' (length f) 256 in
    ap (λ k. take k (f ++ packed fs) ∷ unpacked n (drop k (f ++ packed fs))) is
    ∙ ap (λ x. x ∷ unpacked n (drop (length f) (f ++ packed fs))) (take_at f (packed fs) (length f) refl)
    ∙ ap (λ x. f ∷ unpacked n x) (drop_at f (packed fs) (length f) refl)
    ∙ ap (λ x. f ∷ x) (unpacked-packed fs n (omega arith))

length-packed : (fs : List (List ℕ)) → length fs ≤ length (packed fs)
length-packed [] = omega arith
length-packed (f ∷ fs) = let more = length-packed fs in omega (arith, length-append f (packed fs))

packed_push : (fs : List (List ℕ)) (f : List ℕ) → packed (fs ++ f ∷ []) ≡ packed fs ++ (length f / 256) ∷ (length f % 256) ∷ f
packed_push [] f = ap (λ x. (length f / 256) ∷ (length f % 256) ∷ x) (append-nil f)
packed_push (g ∷ fs) f =
    ap (λ x. (length g / 256) ∷ (length g % 256) ∷ (g ++ x)) (packed_push fs f)
    ∙ ap (λ x. (length g / 256) ∷ (length g % 256) ∷ x) (sym (append_assoc g (packed fs) _))

-- no octets are no frames
pub frames_none : (os : List ℕ) → length os ≡ 0 → frames_in os ≡ []
frames_none os none = ap (λ n. unpacked n os) none

-- octets that are packed frames are those frames
frames_are : (os : List ℕ) (fs : List (List ℕ)) → os ≡ packed fs → frames_in os ≡ fs
frames_are os fs e = ap frames_in e ∙ unpacked-packed fs (length (packed fs)) (length-packed fs)

sound_of : (size : ℕ) (os : List ℕ) (fs : List (List ℕ)) → least ≤ size → os ≡ packed fs → EachFramed fs → Sound (held size os)
sound_of size os fs l e f =
    let are = frames_are os fs e in
    record { large = l; whole = ap packed are ∙ sym e; framed = subst EachFramed (sym are) f }

-- the octets of packed frames are what the frames cost
length-cost : (fs : List (List ℕ)) → length (packed fs) ≡ cost fs
length-cost [] = refl
length-cost (f ∷ fs) = let rest = length-cost fs in omega (arith, length-append f (packed fs))

pub used_cost : (h : Held) → Sound h → length h.content ≡ cost (frames_in h.content)
used_cost h sound = ap length (sym sound.whole) ∙ length-cost (frames_in h.content)

module _ (h : Held) (s : Standing) (sound : Sound h) (is : standing h ≡ s) where
  -- a length that is taken fits a frame, and there is room for it and its two octets
  pub room_for : (n : ℕ) → room (s.spare + least) s.frames n ≡ true → (1 ≤ n) × (n ≤ longest) × (length h.content + (n + 2) ≤ h.size)
  room_for n e =
      let spent = used_cost h sound in
      let large = sound.large in
      let spare = ap (λ t. t.spare) is in
      let costs = ap (λ t. cost t.frames) is in
      grind (arith, nat_tests)

  -- one frame more
  module _ (f : List ℕ) where
    abbrev pub written : List ℕ
    written = (h.content ++ (length f / 256) ∷ (length f % 256) ∷ []) ++ f

    content_push : written ≡ packed (frames_in h.content ++ f ∷ [])
    content_push =
        append_assoc h.content ((length f / 256) ∷ (length f % 256) ∷ []) f
        ∙ ap (λ x. x ++ (length f / 256) ∷ (length f % 256) ∷ f) (sym sound.whole)
        ∙ sym (packed_push (frames_in h.content) f)

    pub frames_push : frames_in written ≡ s.frames ++ f ∷ []
    frames_push = frames_are written (frames_in h.content ++ f ∷ []) content_push ∙ ap (λ t. t.frames ++ f ∷ []) is

    pub sound_push : Framed f → Sound (held h.size written)
    sound_push framed =
        sound_of h.size written (frames_in h.content ++ f ∷ []) sound.large content_push
        (λ k l. All-get_or Framed (frames_in h.content ++ f ∷ []) k [] l (All-push Framed (frames_in h.content) f (All-from_get_or Framed (frames_in h.content) [] sound.framed) framed))

-- octets that are frames are two at least
some_pair : (h : Held) → Sound h → 1 ≤ length h.content → (fs : List (List ℕ)) → frames_in h.content ≡ fs → 2 ≤ length h.content
some_pair h sound some [] is = let bare = ap length (sym sound.whole ∙ ap packed is) in absurd (omega arith)
some_pair h sound some (f ∷ fs) is = let long = ap length (sym sound.whole ∙ ap packed is) in omega arith

pub pair : (h : Held) → Sound h → 1 ≤ length h.content → 2 ≤ length h.content
pair h sound some = some_pair h sound some (frames_in h.content) refl

-- what is read in front of the oldest frame, and where it ends
module _ (h : Held) (sound : Sound h) (high low : ℕ) (left : List ℕ) (starts : h.content ≡ high ∷ low ∷ left) where
  some_frame : frames_in h.content ≡ [] → ⊥
  some_frame none = let bare = sym sound.whole ∙ ap packed none in cc

  module _ (front : List ℕ) (rest : List (List ℕ)) (is : frames_in h.content ≡ front ∷ rest) where
    content_first : h.content ≡ (length front / 256) ∷ (length front % 256) ∷ (front ++ packed rest)
    content_first = sym sound.whole ∙ ap packed is

    read_length : high * 256 + low ≡ length front
    read_length = let e = content_first in let n = div-add-mod' (length front) 256 in cc

    read_left : left ≡ front ++ packed rest
    read_left = let e = content_first in cc

    read_front : take (high * 256 + low) left ≡ front
    read_front = rw (read_left, read_length) (take_at front (packed rest) _ refl)

    rest_left : drop (high * 256 + low) left ≡ packed rest
    rest_left = rw (read_left, read_length) (drop_at front (packed rest) _ refl)

    framed_front : Framed front
    framed_front =
        let parts : Framed front × AllByRecursion Framed rest = subst (AllByRecursion Framed) is (All-from_get_or Framed (frames_in h.content) [] sound.framed) in
        parts.0

    framed_rest : AllByRecursion Framed rest
    framed_rest =
        let parts : Framed front × AllByRecursion Framed rest = subst (AllByRecursion Framed) is (All-from_get_or Framed (frames_in h.content) [] sound.framed) in
        parts.1

  read_short : (fs : List (List ℕ)) → frames_in h.content ≡ fs → high * 256 + low ≤ longest
  read_short [] is = absurd (some_frame is)
  read_short (f ∷ fs) is =
      let long = read_length f fs is in
      let framed = framed_front f fs is in
      omega (arith, framed.1)

  -- what is read fits in a buffer that is large enough
  pub read_fits : (o start : List ℕ) → longest ≤ length o → start ≡ take longest o → high * 256 + low ≤ length start
  read_fits o start enough chunk =
      let short = read_short (frames_in h.content) refl in
      let long : length start ≡ longest = ap length chunk ∙ search (rules, places) in
      omega arith

  sound_behind : (fs : List (List ℕ)) → frames_in h.content ≡ fs → Sound (held h.size (drop (high * 256 + low) left))
  sound_behind [] is = absurd (some_frame is)
  sound_behind (f ∷ fs) is = sound_of h.size (drop (high * 256 + low) left) fs sound.large (rest_left f fs is) (λ k l. All-get_or Framed fs k [] l (framed_rest f fs is))

  -- one frame less
  pub sound_pop : Sound (held h.size (drop (high * 256 + low) left))
  sound_pop = sound_behind (frames_in h.content) refl

  pub frames_pop : (s s' : Standing) (o start start' : List ℕ) (fs : List (List ℕ)) → longest ≤ length o → start ≡ take longest o → frames_in h.content ≡ fs → s.frames ≡ fs → s'.frames ≡ frames_in (drop (high * 256 + low) left)
      → start' ≡ take (high * 256 + low) left ++ drop (high * 256 + low) start → Popped (λ t. t.frames) (roomy o) s.frames s s' o (start' ++ drop longest o) (Ok (Some (high * 256 + low)))
  frames_pop s s' o start start' [] enough chunk is waits are out = absurd (some_frame is)
  frames_pop s s' o start start' (f ∷ fs) enough chunk is waits are out =
      popped_first (λ t. t.frames) s s' o (start' ++ drop longest o) (Ok (Some (high * 256 + low))) enough f fs waits (ap (λ n. Ok (Some n)) (read_length f fs is))
      (are ∙ frames_are (drop (high * 256 + low) left) fs (rest_left f fs is))
      (ap (λ x. x ++ drop longest o) (out ∙ ap (λ x. x ++ drop (high * 256 + low) start) (read_front f fs is) ∙ ap (λ k. f ++ drop k start) (read_length f fs is) ∙ ap (λ x. f ++ drop (length f) x) chunk)
      ∙ laid longest o f (framed_front f fs is).1 enough)
