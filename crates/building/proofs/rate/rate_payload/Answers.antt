use Rattle.std.proofs.Common.{ℕ, min, length, sym, ap, ◌∙◌, arith}
use Rattle.std.specs.Slice.Iter.{chunks_rest}
use Rattle.frames.proofs.Rooms.{push_room, pushed_room}
use Rattle.building.proofs.Marks.{marks_turn, marks_end, marks_room}
use Rattle.building.proofs.rate.rate_payload.Goals as goal

pub unwrap-requires : goal.unwrap-requires
unwrap-requires c =
    let left = c.in-Some.ensures.steps.1.2 in
    let m = marks_room c.loop-eight.payload (chunks_rest c.loop-eight.eight-iterator) c.args.bars.now c.requires c.loop-eight.invariant.3 in
    push_room 9 c.loop-eight.payload c.push.result (omega arith) c.push.ensures.answer

pub loop-eight-preserved : goal.loop-eight-preserved
loop-eight-preserved c =
    let i = c.loop-eight.invariant in
    let s = c.in-Some.ensures.steps in
    let all = chunks_rest c.loop-eight.eight-iterator in
    let m = marks_room c.loop-eight.payload all c.args.bars.now c.requires i.3 in
    let p = pushed_room 9 c.mark_octet.result c.loop-eight.payload c.push.new.self (omega arith) c.push.ensures.items in
    let t = marks_turn c.mark_octet.result all c.in-Some.eight.now (chunks_rest c.next.new.self) c.loop-eight.payload c.push.new.self s.1.0 (s.1.1 ∙ ap (λ (k : ℕ). min k (length all)) i.2) s.1.2 c.mark_octet.ensures p in
    (omega arith, tt, s.0 ∙ i.2, t ∙ i.3)

pub returns : goal.returns
returns c =
    let i = c.loop-eight.invariant.3 in
    let left = chunks_rest c.loop-eight.eight-iterator in
    let m = marks_room c.loop-eight.payload left c.args.bars.now c.requires i in
    record { octets = sym (marks_end left c.loop-eight.payload c.in-None.ensures.steps.1.0) ∙ i; few = omega arith }
