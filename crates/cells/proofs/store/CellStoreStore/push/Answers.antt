use Rattle.std.proofs.Common.{length, rules}
use Rattle.lines.proofs.Queues.{sent}
use Rattle.lines.proofs.Turns.{gain_some, gained_some}
use Rattle.cells.proofs.Puts.{room_left, frames_put}
use Rattle.cells.proofs.store.CellStoreStore.push.Goals as goal

pub unwrap-next-requires : goal.unwrap-next-requires
unwrap-next-requires c =
    gain_some 1 c.self.inside.turning c.gain.result c.gain.ensures.at
    (room_left c.self.inside.cells c.self.inside.turning c.self.invariant c.args.self.now c.self.view_is (length c.args.frame.now) (search rules))

pub returns-clause-frames : goal.returns-clause-frames
returns-clause-frames c =
    let more = gained_some 1 c.self.inside.turning c.gain.new.self c.gain.result c.gain.ensures.at c.gain.ensures.turning c.gain.ensures.round c.unwrap-next.result c.unwrap-next.ensures in
    sent (λ s. s.frames) c.args.self.now _ _ c.args.frame.now (search rules)
    (frames_put c.self.inside.cells c.self.inside.turning c.self.invariant c.args.self.now c.self.view_is c.gain.ensures.round _ _ _ c.gain.new.self more.0 more.1 more.2 c.fill.ensures)
