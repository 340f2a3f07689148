use Rattle.std.proofs.Common.{◌≡◌, ℕ, ◌+◌, ◌*◌, ◌/◌, Bool, ◌&&◌, [], drop, length, get_or, ap, ◌∙◌, sym, arith, rules}
use Rattle.frames.specs.Hex.{all_digits}
use Rattle.frames.proofs.Pairs.{part_at, parted}
use Rattle.frames.proofs.hex.all_digits.Goals as goal

pub returns-then-not-each_digit : goal.returns-then-not-each_digit
returns-then-not-each_digit c =
    let cs = c.args.line.now in
    let i = c.loop-part.part-index in
    let l = c.as_chunks.ensures.front_len in
    let a = part_at 64 (length cs / 64) cs [] c.as_chunks.result.0.now i c.as_chunks.ensures.front (search rules) (omega arith) in
    let s = parted 64 cs (get_or c.as_chunks.result.0.now i []) i a in
    let n = sym c.each_digit.ensures ∙ c.if-not-each_digit.true in
    sym (sym c.loop-part.invariant ∙ s ∙ ap (λ (b : Bool). b && all_digits (drop (64 * (i + 1)) cs)) n)

pub loop-part-preserved : goal.loop-part-preserved
loop-part-preserved c =
    let cs = c.args.line.now in
    let i = c.loop-part.part-index in
    let l = c.as_chunks.ensures.front_len in
    let a = part_at 64 (length cs / 64) cs [] c.as_chunks.result.0.now i c.as_chunks.ensures.front (search rules) (omega arith) in
    let s = parted 64 cs (get_or c.as_chunks.result.0.now i []) i a in
    let n = sym c.each_digit.ensures ∙ c.if-not-each_digit.false in
    sym (s ∙ ap (λ (b : Bool). b && all_digits (drop (64 * (i + 1)) cs)) n) ∙ c.loop-part.invariant

pub returns : goal.returns
returns c =
    let cs = c.args.line.now in
    let i = c.loop-part.part-index in
    let l = c.as_chunks.ensures.front_len in
    let e : length cs / 64 * 64 ≡ 64 * i = omega arith in
    let b = c.as_chunks.ensures.back in
    c.each_digit-2.ensures ∙ ap all_digits (b ∙ ap (λ (k : ℕ). drop k cs) e) ∙ c.loop-part.invariant
