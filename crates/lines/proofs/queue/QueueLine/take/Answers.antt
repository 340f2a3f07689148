use Rattle.std.proofs.Common.{refl}
use Rattle.lines.proofs.Queues.{popped, taken}
use Rattle.lines.proofs.queue.QueueLine.take.Goals as goal

pub invariant_of-self-inside : goal.invariant_of-self-inside
invariant_of-self-inside g c = (popped g.S.Store.frames _ _ _ _ _ _ _ c.pop.ensures.frames refl c.self.inside.framed, tt)

pub returns-clause-took : goal.returns-clause-took
returns-clause-took g c =
    taken g.S.Store.frames c.self.inside.store c.pop.new.self c.self.inside.framed _ g.S.Store.size g.S.Store.room c.args.self.now c.self.view_is g.met.S.Store.freed c.pop.ensures.size _ _ _ _ c.pop.ensures.frames
