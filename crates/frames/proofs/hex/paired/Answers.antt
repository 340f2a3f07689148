use Rattle.std.proofs.Common.{◌+◌, ◌*◌, ◌/◌, [], drop, length, get_or, arith, rules}
use Rattle.std.proofs.lemmas.List.{length-drop}
use Rattle.frames.proofs.Pairs.{part_at, taken, step, room, done}
use Rattle.frames.proofs.hex.paired.Goals as goal

pub worth-requires : goal.worth-requires
worth-requires c =
    let cs = c.args.digits.now in
    let i = c.loop-high.high-index in
    let p = get_or c.as_chunks.result.0.now i [] in
    let l = c.as_chunks.ensures.front_len in
    let a = part_at 2 (length cs / 2) cs [] c.as_chunks.result.0.now i c.as_chunks.ensures.front (search rules) (omega arith) in
    (taken cs (drop (2 * i) cs) p (drop (2 * (i + 1)) cs) c.loop-high.octets a.is a.whole c.loop-high.invariant).high

pub worth-requires-in-loop-high : goal.worth-requires-in-loop-high
worth-requires-in-loop-high c =
    let cs = c.args.digits.now in
    let i = c.loop-high.high-index in
    let p = get_or c.as_chunks.result.0.now i [] in
    let l = c.as_chunks.ensures.front_len in
    let a = part_at 2 (length cs / 2) cs [] c.as_chunks.result.0.now i c.as_chunks.ensures.front (search rules) (omega arith) in
    (taken cs (drop (2 * i) cs) p (drop (2 * (i + 1)) cs) c.loop-high.octets a.is a.whole c.loop-high.invariant).low

pub loop-high-preserved : goal.loop-high-preserved
loop-high-preserved c =
    let cs = c.args.digits.now in
    let i = c.loop-high.high-index in
    let p = get_or c.as_chunks.result.0.now i [] in
    let l = c.as_chunks.ensures.front_len in
    let a = part_at 2 (length cs / 2) cs [] c.as_chunks.result.0.now i c.as_chunks.ensures.front (search rules) (omega arith) in
    let r = room cs (drop (2 * i) cs) p (drop (2 * (i + 1)) cs) c.loop-high.octets a.is a.whole c.requires.room c.loop-high.invariant in
    step cs (drop (2 * i) cs) p (drop (2 * (i + 1)) cs) c.loop-high.octets _ a.is a.whole (search rules) c.loop-high.invariant

pub returns : goal.returns
returns c =
    let cs = c.args.digits.now in
    let i = c.loop-high.high-index in
    let l = length-drop (2 * i) cs in
    let f = c.as_chunks.ensures.front_len in
    done cs (drop (2 * i) cs) c.loop-high.octets (search rules) c.loop-high.invariant
