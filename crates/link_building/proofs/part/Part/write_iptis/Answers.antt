use Rattle.std.proofs.Common.{ℕ, min, length, sym, ap, ◌∙◌, arith}
use Rattle.std.proofs.lemmas.List.{length-append}
use Rattle.std.specs.Slice.Iter.{chunks_rest}
use Rattle.link_building.specs.Wire.{nibbles}
use Rattle.link_building.proofs.Lengths.{nibbles-length}
use Rattle.sets.proofs.Parts.{sound_split}
use Rattle.link_building.proofs.Parts.{iptis_small, nibbles_turn, nibbles_end}
use Rattle.link_building.proofs.part.Part.write_iptis.Goals as goal

pub iptis_octet-requires-clause-small : goal.iptis_octet-requires-clause-small
iptis_octet-requires-clause-small c =
    let o = c.args.self.now.opening in
    let i = c.loop-pair.invariant in
    let s = c.in-Some.ensures.steps in
    let p = sound_split o.subflows o.timed (chunks_rest c.loop-pair.pair-iterator) c.in-Some.pair.now (chunks_rest c.next.new.self) s.1.0 i.4 in
    iptis_small o.subflows o.timed c.in-Some.pair.now p.0

pub push-requires : goal.push-requires
push-requires c =
    let left = chunks_rest c.loop-pair.pair-iterator in
    let e = ap length c.loop-pair.invariant.3 in
    let a = length-append c.loop-pair.out (nibbles left) in
    let b = length-append c.args.out.now (nibbles c.args.self.now.combinations) in
    let n = nibbles-length left in
    omega (arith, c.in-Some.ensures.steps.1.2)

pub loop-pair-preserved : goal.loop-pair-preserved
loop-pair-preserved c =
    let o = c.args.self.now.opening in
    let i = c.loop-pair.invariant in
    let s = c.in-Some.ensures.steps in
    let all = chunks_rest c.loop-pair.pair-iterator in
    let rest = chunks_rest c.next.new.self in
    let p = sound_split o.subflows o.timed all c.in-Some.pair.now rest s.1.0 i.4 in
    let m = nibbles_turn c.iptis_octet.result all c.in-Some.pair.now rest c.loop-pair.out c.push.new.self s.1.0 (s.1.1 ∙ ap (λ (k : ℕ). min k (length all)) i.2) s.1.2 c.iptis_octet.ensures c.push.ensures in
    let e = ap length s.1.0 ∙ length-append c.in-Some.pair.now rest in
    (omega arith, tt, s.0 ∙ i.2, m ∙ i.3, p.1)

pub returns : goal.returns
returns c = sym (nibbles_end (chunks_rest c.loop-pair.pair-iterator) c.loop-pair.out c.in-None.ensures.steps.1.0) ∙ c.loop-pair.invariant.3
