use Rattle.std.proofs.Common.{◌≡◌, ℕ, Bool, true, ◌*◌, ◌<◌, List, Some, length, take, drop, ap, ◌∙◌, arith}
use Rattle.std.proofs.lemmas.List.{length-take}
use Rattle.sets.specs.Rows.{Row, sound}
use Rattle.sets.specs.Openings.{Values}
use Rattle.sets.proofs.Parts.{sound-take, sound-drop}
use Rattle.link_building.proofs.Chunks.{chunk_there, part_is}
use Rattle.link_building.proofs.building.part_at.Goals as goal

part_sound : (n : ℕ) (ti : Bool) (k : ℕ) (rs : List Row) → sound n ti rs ≡ true → sound n ti (take 8 (drop (8 * k) rs)) ≡ true
part_sound n ti k rs s = sound-take n ti 8 (drop (8 * k) rs) (sound-drop n ti (8 * k) rs s)

there : (c : goal.After-opening) → (8 * c.args.number < length c.args.set.now.combinations) × (c.in_ok-rows.rows.now ≡ take 8 (drop (8 * c.args.number) c.args.set.now.combinations))
there c =
    chunk_there c.args.set.now.combinations c.chunks.result c.args.number c.in_ok-rows.rows (c.chunks.ensures.rest ∙ c.rows.ensures.rows) c.chunks.ensures.size c.chunks.ensures.runs c.in_ok-rows.ensures.runs

pub invariant_of-result : goal.invariant_of-result
invariant_of-result c =
    let s = c.args.set.now in
    let h = there c in
    let l = ap length h.1 in
    let k = length-take 8 (drop (8 * c.args.number) s.combinations) in
    let f = c.rows.ensures.closed.sound.few in
    let n = ap (λ (o : Values). o.subflows) c.opening.ensures in
    (omega arith, omega arith, ap (λ (o : Values). sound o.subflows o.timed c.in_ok-rows.rows.now) c.opening.ensures ∙ ap (sound s.opening.subflows s.opening.timed) h.1 ∙ part_sound s.opening.subflows s.opening.timed c.args.number s.combinations c.rows.ensures.closed.sound.sound)

pub returns : goal.returns
returns c =
    let s = c.args.set.now in
    let h = there c in
    ap (λ (o : Values). Some (record { opening = o; combinations = c.in_ok-rows.rows.now })) c.opening.ensures
    ∙ ap (λ (rs : List Row). Some (record { opening = s.opening; combinations = rs })) h.1 ∙ part_is c.args.number s.opening s.combinations h.0
