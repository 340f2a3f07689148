use Rattle.std.proofs.Common.{◌∙◌, ◌++◌, drop, length, Some, Ok, rules, ap, refl, get_or, take-append-drop}
use Rattle.std.specs.Array.{IsFirstChunk}
use Rattle.lines.proofs.Queues.{popped_none, popped_first, laid}
use Rattle.lines.proofs.Turns.{lost_none, lost_some}
use Rattle.cells.specs.Standing.{standing}
use Rattle.cells.proofs.Puts.{lost_one, frames_none, frames_first}
use Rattle.cells.proofs.store.CellStoreStore.pop.Goals as goal

pub returns-in_default-clause-frames : goal.returns-in_default-clause-frames
returns-in_default-clause-frames c =
    let one = lost_one _ c.self.inside.turning c.lose.new.self c.lose.result c.lose.ensures.at c.lose.ensures.turning (search rules) in
    let kept = lost_none 1 c.self.inside.turning c.lose.new.self c.lose.result one.0 one.1 (search rules) in
    let chunk : IsFirstChunk c.args.out.now c.in_ok-start.start.now 512 = search rules in
    popped_none (λ s. s.frames) c.args.self.now _ c.args.out.now _ _ chunk.enough
    (frames_none c.self.inside.cells c.self.inside.turning c.self.invariant c.args.self.now c.self.view_is kept.0)
    refl (ap (standing c.self.inside.cells) kept.1 ∙ c.self.view_is)
    (ap (λ x. x ++ drop 512 c.args.out.now) chunk.same ∙ take-append-drop 512 c.args.out.now)

pub returns-clause-frames : goal.returns-clause-frames
returns-clause-frames c =
    let one = lost_one _ c.self.inside.turning c.lose.new.self c.lose.result c.lose.ensures.at c.lose.ensures.turning (search rules) in
    let less = lost_some 1 c.self.inside.turning c.lose.new.self c.lose.result one.0 one.1 c.in-Some.first c.in-Some.is in
    let chunk : IsFirstChunk c.args.out.now c.in_ok-start.start.now 512 = search rules in
    let o = c.args.out.now in
    let f = get_or c.self.inside.cells c.in-Some.first c.index-self-first.result in
    popped_first (λ s. s.frames) c.args.self.now _ o _ _ chunk.enough f _
    (frames_first c.self.inside.cells c.self.inside.turning c.self.invariant c.args.self.now c.self.view_is c.lose.ensures.round c.in-Some.first c.index-self-first.result less.0 less.1)
    (ap (λ n. Ok (Some n)) c.read.ensures.length)
    (ap (λ t. (standing c.self.inside.cells t).frames) less.2)
    (ap (λ x. x ++ drop 512 o) (c.read.ensures.out ∙ ap (λ n. f ++ drop n c.in_ok-start.start.now) c.read.ensures.length ∙ ap (λ x. f ++ drop (length f) x) chunk.same) ∙ laid 512 o f c.read.ensures.few chunk.enough)
