use Rattle.std.proofs.Common.{◌+◌, [], ◌∷◌, ◌++◌, length, get_or, drop, sym, ap, ◌∙◌, append_assoc, length-append, arith, rules}
use Rattle.std.proofs.lemmas.List.{append-nil}
use Rattle.frames.proofs.Rooms.{push_room, pushed_room}
use Rattle.sets.proofs.Rows.{bits_more, bits_all}
use Rattle.set_in_force.specs.declared.place.Place.{Place}
use Rattle.set_in_force.specs.Places.{places_from}
use Rattle.set_in_force.proofs.Subflows.{places_more, places_all}
use Rattle.set_in_force.proofs.placing.place_all.Goals as goal

pub overflow_add-first : goal.overflow_add-first
overflow_add-first c =
    let b = bits_more c.args.sizes.now c.loop-size.size-index (omega arith) in
    search rules

pub unwrap-requires : goal.unwrap-requires
unwrap-requires c = push_room 7 c.loop-size.row c.push.result (omega (arith, c.loop-size.invariant.count)) c.push.ensures.answer

pub loop-size-preserved : goal.loop-size-preserved
loop-size-preserved c =
    let ss = c.args.sizes.now in
    let k = c.loop-size.size-index in
    let places = c.loop-size.row in
    let first = c.loop-size.first in
    let b = bits_more ss k (omega arith) in
    let p : Place = record { first = first; bits = get_or ss k 0 } in
    let m = places_more first ss k (omega arith) in
    let pushed = pushed_room 7 p places c.push.new.self (omega (arith, c.loop-size.invariant.count)) c.push.ensures.items in
    let more = places_from (first + get_or ss k 0) (drop (k + 1) ss) in
    record {
      places = ap (λ ps. ps ++ more) pushed ∙ append_assoc places (p ∷ []) more ∙ ap (λ ps. places ++ ps) (sym m) ∙ c.loop-size.invariant.places;
      count = ap (λ ps. length ps) pushed ∙ length-append places (p ∷ []) ∙ ap (λ n. n + 1) c.loop-size.invariant.count;
      bits = omega arith;
    }

pub returns : goal.returns
returns c =
    let ss = c.args.sizes.now in
    let k = c.loop-size.size-index in
    let e = places_all c.loop-size.first ss k (omega arith) in
    let b = bits_all ss k (omega arith) in
    record {
      places = c.new.ensures ∙ sym (append-nil c.loop-size.row) ∙ ap (λ ps. c.loop-size.row ++ ps) (sym e) ∙ c.loop-size.invariant.places;
      bits = omega arith;
    }
