use Rattle.std.proofs.Common.{rules, ◌≡◌, ℕ, List, refl, ◌<◌, ◌≤◌, [], ◌∷◌, length, get_or, take, drop, sym, ap, ◌∙◌, arith}
use denote.Ref.{Bor}
use Rattle.std.proofs.lemmas.Bool.{cond-true, cond-false}
use Rattle.link_reading.specs.Layout.{width, coded}
use Rattle.link_reading.proofs.Codings.{behind, coded_none, coded_short, coded_first}
use Rattle.link_reading.proofs.coded.CombinationsIterator.next.Goals as goal
use Rattle.link_reading.proofs.coded.CombinationsIterator.next.Goals.{then-is_last, else-is_last}

pub returns-in_err-head-clause-steps : goal.returns-in_err-head-clause-steps
returns-in_err-head-clause-steps c =
    let os = c.self.inside.octets.now in
    let h : length os ≡ 0 = search rules in
    let empty : c.args.self.now ≡ [] = sym c.self.view_is ∙ coded_none c.self.inside.subflows os h in
    rw c.from_residual.ensures (empty, empty)

pub returns-in_err-sizes-clause-steps : goal.returns-in_err-sizes-clause-steps
returns-in_err-sizes-clause-steps c =
    let os = c.self.inside.octets.now in
    let after = c.in_ok-head.after.now in
    let h : 0 < length os = search rules in
    let f : c.in_ok-head.head.now ≡ get_or os 0 0 = search rules in
    let d : after ≡ drop 1 os = search rules in
    let v = c.width_of.ensures ∙ ap (width c.self.inside.subflows) c.has_wide.ensures in
    let s : length after < c.width_of.result = search rules in
    let empty : c.args.self.now ≡ [] = sym c.self.view_is ∙ coded_short c.self.inside.subflows c.in_ok-head.head.now c.width_of.result os after h f d v s in
    rw c.from_residual-in_err-sizes.ensures (empty, empty)

pub returns : goal.returns
returns c =
    let n = c.self.inside.subflows in
    let os = c.self.inside.octets.now in
    let o = c.in_ok-head.head.now in
    let after = c.in_ok-head.after.now in
    let w = c.width_of.result in
    let h : 0 < length os = search rules in
    let f : o ≡ get_or os 0 0 = search rules in
    let d : after ≡ drop 1 os = search rules in
    let v = c.width_of.ensures ∙ ap (width n) c.has_wide.ensures in
    let s : w ≤ length after = search rules in
    let front : c.in_ok-sizes.sizes.now ≡ take w after = search rules in
    let back : c.in_ok-sizes.rest.now ≡ drop w after = search rules in
    let left : behind n o c.in_ok-sizes.rest.now ≡ coded (length c.if-is_last.self.now) n c.if-is_last.self.now =
    elim c.if-is_last.branch [
      | then-is_last b ↦
          cond-true _ [] (coded (length c.in_ok-sizes.rest.now) n c.in_ok-sizes.rest.now) (sym c.is_last.ensures ∙ b.if-is_last.true)
          ∙ sym (ap (λ (r : Bor (List ℕ)). coded (length r.now) n r.now) b.self-is ∙ coded_none n [] refl)
      | else-is_last b ↦
          cond-false _ [] (coded (length c.in_ok-sizes.rest.now) n c.in_ok-sizes.rest.now) (sym c.is_last.ensures ∙ b.if-is_last.false)
          ∙ sym (ap (λ (r : Bor (List ℕ)). coded (length r.now) n r.now) b.self-is)
    ] in
    let first = coded_first n o w os after h f d v s in
    let steps : c.args.self.now ≡ record { head = o; sizes = c.in_ok-sizes.sizes.now } ∷ coded (length c.if-is_last.self.now) n c.if-is_last.self.now = sym c.self.view_is ∙ first ∙ rw (← front, ← back, left) in
    let fewer = ap length steps in
    record { steps = steps; goes = record { on = λ f. (tt, tt, omega arith); keeps = tt; rests = λ f. tt } }
