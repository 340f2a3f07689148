-- A line splits at the end of its first word.
use Rattle.std.proofs.Common.{◌≡◌, ℕ, suc, ◌+◌, ◌<◌, ◌≤◌, Bool, true, false, cond, not, List, [], ◌∷◌, Some, None, length, take, drop, refl, ap, sym, ◌∙◌, arith}
use Rattle.std.specs.Prelude.{position, unwrap_or}
use Rattle.std.specs.List.{position_or_len}
use Rattle.std.proofs.lemmas.Bool.Decides.{nat_tests}
use Rattle.std.proofs.lemmas.List.Quantifiers.{position-Some}
use Rattle.std.proofs.lemmas.List.Sums.{prefix_len-le-length, prefix_len-drop_yes}
use Rattle.script.specs.Words.{is_blank, is_letter, before, words_of}

one_more : (n : ℕ) → 1 + n ≡ suc n
one_more n = omega arith

-- the first place that passes, or the end
pub end_of : (cs : List ℕ) → unwrap_or (position is_blank cs) (length cs) ≡ position_or_len is_blank cs
end_of cs =
    let within = prefix_len-le-length is_letter cs in
    grind (arith, nat_tests)

-- blanks ahead of the words do not count
blanks_skipped : (cs : List ℕ) → words_of (drop (position_or_len is_letter cs) cs) ≡ words_of cs
unfolding words_of
blanks_skipped [] = refl
blanks_skipped (c ∷ cs) = skipped (blanks_skipped cs) (is_blank c) refl
  where
    skipped : words_of (drop (position_or_len is_letter cs) cs) ≡ words_of cs → (b : Bool) → is_blank c ≡ b → words_of (drop (cond (not (not b)) (1 + position_or_len is_letter cs) 0) (c ∷ cs)) ≡ words_of (c ∷ cs)
    skipped more true e = rw (e, one_more (position_or_len is_letter cs)) more
    skipped more false e = refl

-- a byte that is no blank stands before what follows
word_grows : (c : ℕ) (cs : List ℕ) → is_blank c ≡ false → (0 < position_or_len is_blank cs → words_of cs ≡ take (position_or_len is_blank cs) cs ∷ words_of (drop (position_or_len is_blank cs) cs)) → words_of (c ∷ cs) ≡ (c ∷ take (position_or_len is_blank cs) cs) ∷ words_of (drop (position_or_len is_blank cs) cs)
unfolding words_of
word_grows c [] e more = rw e
word_grows c (d ∷ ds) e more = rw e (grown (is_blank d) refl)
  where
    grown : (b : Bool) → is_blank d ≡ b → cond (not b) (before c (words_of (d ∷ ds))) ((c ∷ []) ∷ words_of (d ∷ ds)) ≡ (c ∷ take (position_or_len is_blank (d ∷ ds)) (d ∷ ds)) ∷ words_of (drop (position_or_len is_blank (d ∷ ds)) (d ∷ ds))
    grown true f = simp f
    grown false f =
        let n : 0 < position_or_len is_blank (d ∷ ds) = rw f (omega arith) in
        ap (before c) (more n)

-- the first word goes on to the first blank
first_word : (cs : List ℕ) → 0 < position_or_len is_blank cs → words_of cs ≡ take (position_or_len is_blank cs) cs ∷ words_of (drop (position_or_len is_blank cs) cs)
first_word [] h = absurd (omega arith)
first_word (c ∷ cs) h = first (first_word cs) (is_blank c) refl h
  where
    first : (0 < position_or_len is_blank cs → words_of cs ≡ take (position_or_len is_blank cs) cs ∷ words_of (drop (position_or_len is_blank cs) cs)) → (b : Bool) → is_blank c ≡ b → 0 < cond (not b) (1 + position_or_len is_blank cs) 0 → words_of (c ∷ cs) ≡ take (cond (not b) (1 + position_or_len is_blank cs) 0) (c ∷ cs) ∷ words_of (drop (cond (not b) (1 + position_or_len is_blank cs) 0) (c ∷ cs))
    first more true e n = absurd (omega arith)
    first more false e n = rw (one_more (position_or_len is_blank cs)) (word_grows c cs e more)

blank_line : (cs : List ℕ) → length cs ≤ position_or_len is_letter cs → words_of cs ≡ []
unfolding words_of
blank_line [] h = refl
blank_line (c ∷ cs) h = blank (blank_line cs) (is_blank c) refl h
  where
    blank : (length cs ≤ position_or_len is_letter cs → words_of cs ≡ []) → (b : Bool) → is_blank c ≡ b → suc (length cs) ≤ cond (not (not b)) (1 + position_or_len is_letter cs) 0 → words_of (c ∷ cs) ≡ []
    blank more true e n = rw e (more (omega arith))
    blank more false e n = absurd (omega arith)

-- a line with no letter has no word
pub no_words : (cs : List ℕ) → position is_letter cs ≡ None → words_of cs ≡ []
no_words cs e =
    let past : length cs ≤ position_or_len is_letter cs = grind (arith, nat_tests) in
    blank_line cs past

-- the first word of a line begins with the first letter, and has it
pub word_from : (cs : List ℕ) (n : ℕ) → position is_letter cs ≡ Some n → (n < length cs) × (0 < position_or_len is_blank (drop n cs)) × (words_of cs ≡ take (position_or_len is_blank (drop n cs)) (drop n cs) ∷ words_of (drop (position_or_len is_blank (drop n cs)) (drop n cs)))
word_from cs n e =
    let found = position-Some is_letter cs n 0 e in
    let place : position_or_len is_letter cs ≡ n = grind (arith, nat_tests) in
    let some : 0 < position_or_len is_blank (drop n cs) = omega (arith, prefix_len-drop_yes is_letter cs n 0 found.0 found.1) in
    (found.0, some, sym (blanks_skipped cs) ∙ rw place (first_word (drop n cs) some))
