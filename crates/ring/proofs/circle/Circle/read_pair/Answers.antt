use Rattle.lines.proofs.Turns.{lost_some}
use Rattle.ring.proofs.Pastes.{held_read}
use Rattle.ring.proofs.circle.Circle.read_pair.Goals as goal

pub returns : goal.returns
returns c =
    let t = c.self.inside.turning in
    let less = lost_some 2 t c.lose.new.self c.lose.result c.lose.ensures.at c.lose.ensures.turning c.unwrap-first.result c.unwrap-first.ensures in
    held_read c.self.inside.octets t c.lose.new.self c.args.self.now c.unwrap-first.result c.at-second.result c.self.invariant.some c.lose.ensures.round less.0 less.1 c.at-second.ensures.at less.2 c.self.view_is
