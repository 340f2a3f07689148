use Rattle.std.proofs.Common.{rules, ◌≡◌, ◌<◌, ◌-◌, arith, length, Some, None, take, drop, ◌∷◌}
use Rattle.std.proofs.lemmas.List.{take_rest}
use Rattle.std.specs.Prelude.{position}
use Rattle.script.specs.Words.{is_letter, words_of}
use Rattle.script.proofs.Splitting.{no_words, word_from}
use Rattle.script.proofs.words.next_word.Goals as goal

pub returns-in_err-start-clause-words : goal.returns-in_err-start-clause-words
returns-in_err-start-clause-words c =
    let none : position is_letter c.args.line.now ≡ None = search rules in
    rw c.from_residual.ensures (no_words c.args.line.now none)

pub returns : goal.returns
returns c =
    let line = c.args.line.now in
    let n = c.in_ok-start.start in
    let at : position is_letter line ≡ Some n = search rules in
    let from = word_from line n at in
    let text : take (length line - n) (drop n line) ≡ drop n line = simp take_rest in
    let words : words_of line ≡ c.split_at.result.0.now ∷ words_of c.split_at.result.1.now = cc (from.2, text, c.split_at.ensures.front, c.split_at.ensures.back, c.word_end.ensures.end) in
    let some : 0 < c.word_end.result = rw (c.word_end.ensures.end, text) from.1 in
    record { words = words; shorter = omega arith }
