use Rattle.std.proofs.Common.{arith, rules}
use Rattle.ring.proofs.Pastes.{held_lose, held_drop, out_flat, out_wrap}
use Rattle.ring.proofs.circle.Circle.read.Goals as goal

pub unwrap-first-requires : goal.unwrap-first-requires
unwrap-first-requires c = held_lose c.self.inside.octets c.self.inside.turning c.args.self.now c.self.view_is c.args.n c.lose.result c.lose.ensures.at c.requires.some

pub returns-then-n-left-clause-left : goal.returns-then-n-left-clause-left
returns-then-n-left-clause-left c =
    held_drop c.self.inside.octets c.self.inside.turning c.args.self.now c.self.view_is c.args.n c.lose.result c.lose.new.self c.unwrap-first.result c.self.invariant.some c.lose.ensures.round c.lose.ensures.at c.lose.ensures.turning c.unwrap-first.ensures

pub returns-then-n-left-clause-out : goal.returns-then-n-left-clause-out
returns-then-n-left-clause-out c =
    out_flat c.self.inside.octets c.args.out.now c.self.inside.turning c.lose.new.self c.args.self.now c.args.n c.unwrap-first.result c.size-end.result c.lose.result c.self.view_is c.self.invariant.some (search rules) c.lose.ensures.round
    c.lose.ensures.at c.lose.ensures.turning c.unwrap-first.ensures c.size-end.ensures _ (omega arith) c.copy_from_slice.ensures.after

pub returns-else-n-left-clause-left : goal.returns-else-n-left-clause-left
returns-else-n-left-clause-left c =
    held_drop c.self.inside.octets c.self.inside.turning c.args.self.now c.self.view_is c.args.n c.lose.result c.lose.new.self c.unwrap-first.result c.self.invariant.some c.lose.ensures.round c.lose.ensures.at c.lose.ensures.turning c.unwrap-first.ensures

pub returns-else-n-left-clause-out : goal.returns-else-n-left-clause-out
returns-else-n-left-clause-out c =
    out_wrap c.self.inside.octets c.args.out.now c.self.inside.turning c.lose.new.self c.args.self.now c.args.n c.unwrap-first.result c.size-end.result c.lose.result c.self.view_is c.self.invariant.some (search rules) c.lose.ensures.round
    c.lose.ensures.at c.lose.ensures.turning c.unwrap-first.ensures c.size-end.ensures _ _ _ (omega arith) c.copy_from_slice-else-n-left.ensures.after c.copy_from_slice-else-n-left-2.ensures.after (omega arith)
