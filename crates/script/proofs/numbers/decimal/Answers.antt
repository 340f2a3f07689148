use Rattle.std.proofs.Common.{◌≡◌, true, false, ◌&&◌, leb, get_or, sym, ◌∙◌, arith}
use Rattle.std.proofs.lemmas.Bool.Decides.{nat_tests}
use Rattle.std.specs.Char.{is_ascii_digit}
use Rattle.script.proofs.Decimal.{decimal_stop, decimal_past, decimal_end}
use Rattle.script.proofs.numbers.decimal.Goals as goal

pub returns-then-not-is_ascii_digit : goal.returns-then-not-is_ascii_digit
returns-then-not-is_ascii_digit c =
    let word = c.args.word.now in
    let i = c.loop-byte.byte-index in
    let no_more : (is_ascii_digit (get_or word i 0) && leb c.loop-byte.value 99999999999999999) ≡ false = grind (arith, nat_tests) in
    sym (sym c.loop-byte.invariant.0 ∙ decimal_stop c.loop-byte.value word i c.loop-byte-test.true no_more)

pub loop-byte-preserved : goal.loop-byte-preserved
loop-byte-preserved c =
    let word = c.args.word.now in
    let i = c.loop-byte.byte-index in
    let more : (is_ascii_digit (get_or word i 0) && leb c.loop-byte.value 99999999999999999) ≡ true = grind (arith, nat_tests) in
    (decimal_past c.loop-byte.value word i c.loop-byte-test.true more ∙ c.loop-byte.invariant.0, grind (arith, nat_tests))

pub returns : goal.returns
returns c = sym (sym c.loop-byte.invariant.0 ∙ decimal_end c.loop-byte.value c.args.word.now c.loop-byte.byte-index c.loop-byte-test.false)
