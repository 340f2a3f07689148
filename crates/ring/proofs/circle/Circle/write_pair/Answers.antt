use Rattle.std.proofs.Common.{◌+◌, ◌≤◌, length, ap, ◌∙◌, arith, rules}
use Rattle.lines.proofs.Turns.{gained_some}
use Rattle.lines.specs.Circle.{place}
use Rattle.ring.proofs.Pastes.{used_is, held_gain, held_write}
use Rattle.ring.proofs.circle.Circle.write_pair.Goals as goal

pub overflow_add-used : goal.overflow_add-used
overflow_add-used c =
    let used = used_is c.self.inside.octets c.self.inside.turning c.args.self.now c.self.view_is in
    let size = ap (λ h. h.size) c.self.view_is in
    let is = c.used.ensures in
    let most = c.self.invariant.most in
    omega (arith, c.requires)

pub unwrap-first-requires : goal.unwrap-first-requires
unwrap-first-requires c = held_gain c.self.inside.octets c.self.inside.turning c.args.self.now c.self.view_is 2 c.gain.result c.gain.ensures.at c.requires

pub returns : goal.returns
returns c =
    let t = c.self.inside.turning in
    let wide : t.size ≤ length c.self.inside.octets = search rules in
    let more = gained_some 2 t c.gain.new.self c.gain.result c.gain.ensures.at c.gain.ensures.turning c.gain.ensures.round c.unwrap-first.result c.unwrap-first.ensures in
    held_write c.self.inside.octets t c.gain.new.self c.args.self.now c.unwrap-first.result c.at-second.result c.args.high c.args.low c.self.invariant.some c.gain.ensures.round more.0 wide more.1
    (c.at-second.ensures.at ∙ ap (λ k. place t.size t.head (k + 1)) c.used.ensures) more.2 c.self.view_is
