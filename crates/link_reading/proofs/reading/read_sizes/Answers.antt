use Rattle.std.proofs.Common.{ℕ, min, length, ap, ◌∙◌, arith}
use Rattle.std.specs.Slice.Iter.{chunks_rest}
use Rattle.frames.proofs.Rooms.{push_room, pushed_room}
use Rattle.link_reading.proofs.Parts.{sizes_room, sizes_turn, sizes_done}
use Rattle.link_reading.proofs.reading.read_sizes.Goals as goal

pub unwrap-requires : goal.unwrap-requires
unwrap-requires c =
    let room = sizes_room c.args.wide c.args.subflows c.loop-size.sizes (chunks_rest c.loop-size.size-iterator) _ c.loop-size.invariant.3 c.in-Some.ensures.steps.1.2 c.requires.few in
    push_room 7 c.loop-size.sizes c.push.result room c.push.ensures.answer

pub loop-size-preserved : goal.loop-size-preserved
loop-size-preserved c =
    let i = c.loop-size.invariant in
    let s = c.in-Some.ensures.steps in
    let all = chunks_rest c.loop-size.size-iterator in
    let room = sizes_room c.args.wide c.args.subflows c.loop-size.sizes all _ i.3 s.1.2 c.requires.few in
    let pushed = pushed_room 7 c.size_in.result c.loop-size.sizes c.push.new.self room c.push.ensures.items in
    let t = sizes_turn c.args.wide c.args.subflows c.size_in.result all c.in-Some.size.now (chunks_rest c.next.new.self) c.loop-size.sizes c.push.new.self _ i.3 s.1.0 (s.1.1 ∙ ap (λ (k : ℕ). min k (length all)) i.2) s.1.2 c.size_in.ensures pushed in
    (omega (arith, s.0, i.0), tt, s.0 ∙ i.2, t)

pub returns : goal.returns
returns c = sizes_done c.args.wide c.args.subflows c.loop-size.sizes (chunks_rest c.loop-size.size-iterator) _ c.loop-size.invariant.3 c.in-None.ensures.steps.1.0
