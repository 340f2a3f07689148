use Rattle.lines.proofs.Queues.{pushed, put}
use Rattle.lines.proofs.queue.QueueLine.put.Goals as goal

pub invariant_of-self-inside : goal.invariant_of-self-inside
invariant_of-self-inside g c = (pushed g.S.Store.frames _ _ _ c.args.frame.now (g.met.S.Store.sized _ _ _) c.push.ensures.frames c.self.inside.framed, tt)

pub returns-clause-line : goal.returns-clause-line
returns-clause-line g c =
    put g.S.Store.frames c.self.inside.store c.push.new.self c.self.inside.framed _ g.S.Store.size g.S.Store.room c.args.self.now c.self.view_is c.args.frame.now c.push.ensures.frames
