use Rattle.std.proofs.Common.{length, arith, rules}
use Rattle.ring.proofs.Pastes.{held_gain, held_flat, held_wrap}
use Rattle.ring.proofs.circle.Circle.write.Goals as goal

pub unwrap-next-requires : goal.unwrap-next-requires
unwrap-next-requires c = held_gain c.self.inside.octets c.self.inside.turning c.args.self.now c.self.view_is (length c.args.octets.now) c.gain.result c.gain.ensures.at c.requires

pub returns-then-n-left : goal.returns-then-n-left
returns-then-n-left c =
    held_flat c.self.inside.octets c.args.octets.now c.self.inside.turning c.gain.new.self c.args.self.now c.unwrap-next.result c.size-end.result c.gain.result c.self.view_is c.self.invariant.some (search rules) c.gain.ensures.round
    c.gain.ensures.at c.gain.ensures.turning c.unwrap-next.ensures c.size-end.ensures _ _ (omega arith) (omega arith) c.copy_from_slice.ensures.after

pub returns-else-n-left : goal.returns-else-n-left
returns-else-n-left c =
    held_wrap c.self.inside.octets c.args.octets.now c.self.inside.turning c.gain.new.self c.args.self.now c.unwrap-next.result c.size-end.result c.gain.result c.self.view_is c.self.invariant.some (search rules) c.gain.ensures.round
    c.gain.ensures.at c.gain.ensures.turning c.unwrap-next.ensures c.size-end.ensures _ _ _ _ (omega arith) c.copy_from_slice-else-n-left.ensures.after c.copy_from_slice-else-n-left-2.ensures.after (omega arith) (omega arith)
