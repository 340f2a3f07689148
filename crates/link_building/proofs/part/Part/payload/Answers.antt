use Rattle.std.proofs.Common.{◌≤◌, true, length, subst, ◌≡◌, ℕ, ◌+◌, ◌*◌, Bool, cond, List, [], ◌∷◌, ◌++◌, sym, ap, ◌∙◌, arith}
use Rattle.std.proofs.lemmas.List.{append-nil, length-append}
use Rattle.std.proofs.lemmas.Bool.{cond-true, cond-false}
use Rattle.frames.specs.DataTypes.{data_number}
use Rattle.sets.specs.Contents.{Contents}
use Rattle.sets.specs.Rows.{Row, sound}
use Rattle.sets.specs.Openings.{Values}
use Rattle.link_building.specs.Wire.{combinations, nibbles}
use Rattle.link_building.proofs.Lengths.{Short, part_short}
use Rattle.link_building.proofs.Writes.{payload_is}
use Rattle.link_building.proofs.part.Part.payload.Goals as goal
use Rattle.link_building.proofs.part.Part.payload.Goals.{then-is_timed, else-is_timed}

-- how long its parts are
short : (v : Contents) (o : Values) (rs : List Row) → record { opening = o; combinations = rs } ≡ v → (length rs ≤ 8) × (o.subflows ≤ 7) × (sound o.subflows o.timed rs ≡ true) → Short v.combinations
short v o rs e i = subst Short (ap (λ (x : Contents). x.combinations) e) (part_short o.subflows o.timed rs i.0 i.1 i.2)

-- how long it is after the first octet
first : (h : ℕ) (none out : List ℕ) → none ≡ [] → out ≡ none ++ h ∷ [] → length out ≡ 1
first h none out e f = ap length (f ∙ ap (λ xs. xs ++ h ∷ []) e)

pub write_combinations-requires : goal.write_combinations-requires
write_combinations-requires c = let s = short _ _ _ c.self.view_is c.self.invariant in omega (arith, s.combinations, first _ _ _ c.new-out.ensures c.push.ensures)

pub write_iptis-requires : goal.write_iptis-requires
write_iptis-requires c =
    let s = short _ _ _ c.self.view_is c.self.invariant in
    let b = ap length c.write_combinations.ensures ∙ length-append c.push.new.self (combinations c.args.self.now.combinations) in
    omega (arith, s.combinations, s.nibbles, first _ _ _ c.new-out.ensures c.push.ensures)

pub write_ending-requires : goal.write_ending-requires
write_ending-requires c =
    let rs = c.args.self.now.combinations in
    let s = short _ _ _ c.self.view_is c.self.invariant in
    let b = ap length c.write_combinations.ensures ∙ length-append c.push.new.self (combinations rs) in
    let d : length c.if-is_timed.out ≤ length c.write_combinations.new.out + 4 =
    elim c.if-is_timed.branch [
      | then-is_timed w ↦ let e = ap length (w.out-is ∙ w.write_iptis.ensures) ∙ length-append c.write_combinations.new.out (nibbles rs) in omega (arith, s.nibbles)
      | else-is_timed w ↦ let e = ap length w.out-is in omega arith
    ] in
    omega (arith, s.combinations, first _ _ _ c.new-out.ensures c.push.ensures)

pub returns : goal.returns
returns c =
    let o = c.args.self.now.opening in
    let rs = c.args.self.now.combinations in
    let b = c.write_combinations.new.out in
    let v = ap (λ (v : Contents). v.opening) c.self.view_is in
    let t : c.self.inside.opening.timed ≡ o.timed = ap (λ (v : Contents). v.opening.timed) c.self.view_is in
    let d : c.if-is_timed.out ≡ b ++ cond o.timed (nibbles rs) [] =
    elim c.if-is_timed.branch [
      | then-is_timed w ↦
          w.out-is ∙ w.write_iptis.ensures ∙ ap (λ (xs : List ℕ). b ++ xs) (sym (cond-true o.timed (nibbles rs) [] (sym t ∙ sym c.is_timed-2.ensures ∙ w.if-is_timed.true)))
      | else-is_timed w ↦
          w.out-is ∙ sym (append-nil b) ∙ ap (λ (xs : List ℕ). b ++ xs) (sym (cond-false o.timed (nibbles rs) [] (sym t ∙ sym c.is_timed-2.ensures ∙ w.if-is_timed.false)))
    ] in
    let f = c.flag.ensures ∙ ap (λ (b : Bool). cond b 16 0) (c.is_timed.ensures ∙ t) in
    let n = c.subflows.ensures.is ∙ ap (λ (v : Contents). v.opening.subflows) c.self.view_is in
    let k = ap data_number (c.data_type.ensures ∙ ap (λ (v : Contents). v.opening.data_type) c.self.view_is) in
    payload_is o.subflows o.timed (data_number o.data_type) c.args.chain rs (c.flag.result + c.subflows.result * 2 + c.flag-2.result)
    c.new-out.result c.push.new.self b c.if-is_timed.out c.write_ending.new.out
    c.new-out.ensures (omega (arith, f, c.flag-2.ensures)) c.push.ensures c.write_combinations.ensures d (c.write_ending.ensures ∙ ap (λ (m : ℕ). c.if-is_timed.out ++ (0 ∷ 1 ∷ m * 16 ∷ [])) k)
