use Rattle.std.proofs.Common.{◌≡◌, ℕ, ◌+◌, cond, Bool, List, ◌++◌, length, sym, ap, ◌∙◌, arith}
use Rattle.std.proofs.lemmas.List.{length_push}
use Rattle.link_building.specs.Wire.{wide, sizes_octets, combination}
use Rattle.link_building.proofs.Lengths.{length-combination, size_room}
use Rattle.link_building.proofs.Writes.{narrow_at, sizes_more, sizes_all, combination_is}
use Rattle.link_building.proofs.writing.write_combination.Goals as goal

pub push-requires : goal.push-requires
push-requires c =
    let l = length-combination c.args.last c.args.row.now.rfci c.args.row.now.sizes in
    omega (arith, c.requires.room)

pub write_size-requires : goal.write_size-requires
write_size-requires c =
    let ss = c.sizes-sizes.result.now in
    let w = c.is_wide-wide.result in
    let l = ap length c.push.ensures ∙ length_push c.args.out.now (c.flag.result + c.flag-2.result + c.rfci.result) in
    let o = length-combination c.args.last c.args.row.now.rfci c.args.row.now.sizes ∙ ap (λ (xs : List ℕ). 1 + length (sizes_octets (wide xs) xs)) (sym c.sizes-sizes.ensures.sizes) in
    let v = ap (λ (b : Bool). length (sizes_octets b ss)) c.is_wide-wide.ensures in
    record {
      narrow = λ e. narrow_at ss c.loop-size.size-index (sym c.is_wide-wide.ensures ∙ e) c.loop-size-test.true;
      room = size_room w ss c.loop-size.size-index c.push.new.self c.loop-size.out c.loop-size-test.true c.loop-size.invariant (omega (arith, c.requires.room));
    }

pub loop-size-preserved : goal.loop-size-preserved
loop-size-preserved c =
    sizes_more c.is_wide-wide.result c.sizes-sizes.result.now c.loop-size.size-index c.loop-size.out c.write_size.new.out c.loop-size-test.true c.write_size.ensures ∙ c.loop-size.invariant

pub returns : goal.returns
returns c =
    let ss = c.sizes-sizes.result.now in
    let w = c.is_wide-wide.result in
    let was = c.args.out.now in
    let last = c.args.last in
    let n = c.rfci.result in
    let o = c.flag.result + c.flag-2.result + n in
    let a = sizes_all w ss c.loop-size.size-index c.loop-size.out c.loop-size-test.false in
    let i : o ≡ cond last 128 0 + cond w 64 0 + n = omega arith in
    let k = combination_is last w n o ss was c.is_wide-wide.ensures i in
    let p = ap (λ (xs : List ℕ). xs ++ sizes_octets w ss) c.push.ensures in
    let r = ap (λ (m : ℕ). was ++ combination last m ss) c.rfci.ensures ∙ ap (λ (xs : List ℕ). was ++ combination last c.args.row.now.rfci xs) c.sizes-sizes.ensures.sizes in
    sym a ∙ c.loop-size.invariant ∙ p ∙ k ∙ r
