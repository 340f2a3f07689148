-- The words of a line: what stands between blanks.
use Rattle.std.specs.Prelude.{ℕ, Bool, false, cond, not, ◌||◌, List, [], ◌∷◌, Some, None, Option, ◌==◌}
use Rattle.script.specs.declared.words.Split.{Split}

-- space, tabulator, and the carriage return that some makers put before a line feed
abbrev pub is_blank : ℕ → Bool
is_blank c = c == 32 || c == 9 || c == 13

-- what words are made of
abbrev pub is_letter : ℕ → Bool
is_letter c = not (is_blank c)

-- whether a word goes on
abbrev pub goes_on : List ℕ → Bool
goes_on [] = false
goes_on (c ∷ cs) = is_letter c

-- a byte put before the first word
abbrev pub before : ℕ → List (List ℕ) → List (List ℕ)
before c [] = (c ∷ []) ∷ []
before c (w ∷ ws) = (c ∷ w) ∷ ws

unfoldable pub words_of : List ℕ → List (List ℕ)
words_of [] = []
words_of (c ∷ cs) =
    cond (is_blank c) (words_of cs) (cond (goes_on cs) (before c (words_of cs)) ((c ∷ []) ∷ words_of cs))

-- the words of a line that was split
abbrev pub listed : Option Split → List (List ℕ)
listed None = []
listed (Some s) = s.word.now ∷ words_of s.rest.now
