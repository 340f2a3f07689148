use Rattle.std.proofs.Common.{◌≡◌, ℕ, ◌≤◌, Bool, false, List, take, ◌∙◌, Ok, Err, nat_lt, arith}
use Rattle.std.proofs.lemmas.Bool.{cond-false}
use Rattle.std.proofs.lemmas.Bool.Decides.{nat_tests}
use Rattle.std.proofs.lemmas.List.{get_or-take, length-take-le}
use Rattle.std.proofs.lemmas.List.FromFn.{fill_by_all}
use Rattle.frames.specs.Values.{marks_in}
use Rattle.frames.specs.declared.refusal.Refusal.TheVariants.{ValueRange}
use Rattle.payloads.specs.Payloads.{barred}
use Rattle.payloads.proofs.marks.read_marks.Goals as goal

within : (n : ℕ) → n ≤ 63 → nat_lt 63 n ≡ false
within n h = grind (arith, nat_tests)

kept : (n : ℕ) (ys : List Bool) → n ≤ 63 → marks_in n ys ≡ Ok (take n ys)
kept n ys h = cond-false (nat_lt 63 n) (Err ValueRange) (Ok (take n ys)) (within n h)

pub returns : goal.returns
returns c =
    let o = c.args.octets.now in
    let n = c.args.count in
    let ys = c.loop-k.bars in
    let u = c.unwrap.ensures in
    let w = c.new.ensures ∙ kept n ys c.requires.few in
    let t : c.unwrap.result ≡ take n ys = cc in
    let l = c.loop-k.invariant.0 in
    t ∙ fill_by_all (barred o) (take n ys) n false (length-take-le n ys (omega arith)) (λ k h. get_or-take n ys k false h ∙ c.loop-k.invariant.1 k (omega arith))
