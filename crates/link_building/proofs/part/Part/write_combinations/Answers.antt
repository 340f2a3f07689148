use Rattle.std.proofs.Common.{rules, ◌≡◌, ℕ, ◌+◌, ◌≤◌, ◌<◌, Bool, true, false, List, [], ◌∷◌, ◌++◌, length, drop, sym, ap, ◌∙◌, arith}
use Rattle.std.proofs.lemmas.Bool.Decides.{nat_tests}
use Rattle.sets.specs.Rows.{Row, sound}
use Rattle.sets.specs.Contents.{Contents}
use Rattle.sets.proofs.Fitting.{fit_read}
use Rattle.link_building.specs.Wire.{combination, combinations}
use Rattle.link_building.proofs.Writes.{combinations_all}
use Rattle.link_building.proofs.Lengths.{combination_room}
use Rattle.link_building.proofs.Parts.{Stands, other_stands, last_stands, combination_turn}
use Rattle.link_building.proofs.part.Part.write_combinations.Goals as goal

-- a combination that is written next: there is room for it, and it leads on to the others
room : (v : Contents) (cs : List Row) (j : ℕ) (r : Row) (last : Bool) (was out : List ℕ) → cs ≡ v.combinations → Stands cs j r last → out ++ combinations (drop j v.combinations) ≡ was ++ combinations v.combinations → length was + length (combinations v.combinations) ≤ 128
    → length out + length (combination last r.rfci r.sizes) ≤ 128
room v cs j r last was out e s i h = combination_room cs v.combinations j r r last was out e s.is s.within s.ends i h

turn : (v : Contents) (cs : List Row) (j : ℕ) (r : Row) (last : Bool) (was out : List ℕ) → cs ≡ v.combinations → Stands cs j r last → out ≡ was ++ combination last r.rfci r.sizes
    → out ++ combinations (drop (j + 1) v.combinations) ≡ was ++ combinations (drop j v.combinations)
turn v cs j r last was out e s w = combination_turn cs v.combinations j r last was out e s.within s.ends (w ∙ ap (λ (x : Row). was ++ combination last x.rfci x.sizes) s.is)

small : (n : ℕ) (ti : Bool) (cs : List Row) (j : ℕ) (r : Row) (last : Bool) → sound n ti cs ≡ true → Stands cs j r last → r.rfci < 64
small n ti cs j r last h s = let f = fit_read n ti cs j r s.is h s.within in omega (arith, f.rfci)

pub write_combination-requires : goal.write_combination-requires
write_combination-requires c =
    let p = c.self.inside in
    let e : p.rows.now ≡ c.in-Some.others.now ++ c.in-Some.last.now ∷ [] = search rules in
    let s = other_stands p.rows.now c.in-Some.others.now c.in-Some.last.now c.row-item.result c.loop-row.row-index e c.row-item.is c.loop-row-test.true in
    record { number = small _ _ _ _ _ _ c.self.invariant.2 s; room = room c.args.self.now _ _ _ _ c.args.out.now c.loop-row.out (ap (λ (v : Contents). v.combinations) c.self.view_is) s c.loop-row.invariant.0 c.requires }

pub loop-row-preserved : goal.loop-row-preserved
loop-row-preserved c =
    let p = c.self.inside in
    let e : p.rows.now ≡ c.in-Some.others.now ++ c.in-Some.last.now ∷ [] = search rules in
    let s = other_stands p.rows.now c.in-Some.others.now c.in-Some.last.now c.row-item.result c.loop-row.row-index e c.row-item.is c.loop-row-test.true in
    let t = turn c.args.self.now p.rows.now c.loop-row.row-index c.row-item.result false c.loop-row.out c.write_combination.new.out (ap (λ (v : Contents). v.combinations) c.self.view_is) s c.write_combination.ensures in
    (t ∙ c.loop-row.invariant.0, omega (arith, c.loop-row-test.true))

pub write_combination-requires-in-Some : goal.write_combination-requires-in-Some
write_combination-requires-in-Some c =
    let p = c.self.inside in
    let ys = c.in-Some.others.now in
    let e : p.rows.now ≡ ys ++ c.in-Some.last.now ∷ [] = search rules in
    let s = last_stands p.rows.now ys c.in-Some.last.now e in
    let v = c.args.self.now in
    let j : c.loop-row.row-index ≡ length ys = omega (arith, c.loop-row-test.false, c.loop-row.invariant.1) in
    let i = ap (λ (k : ℕ). c.loop-row.out ++ combinations (drop k v.combinations)) (sym j) ∙ c.loop-row.invariant.0 in
    record { number = small _ _ _ _ _ _ c.self.invariant.2 s; room = room v p.rows.now (length ys) c.in-Some.last.now true c.args.out.now c.loop-row.out (ap (λ (v : Contents). v.combinations) c.self.view_is) s i c.requires }

pub returns-after-loop-row : goal.returns-after-loop-row
returns-after-loop-row c =
    let p = c.self.inside in
    let ys = c.in-Some.others.now in
    let e : p.rows.now ≡ ys ++ c.in-Some.last.now ∷ [] = search rules in
    let s = last_stands p.rows.now ys c.in-Some.last.now e in
    let v = c.args.self.now in
    let q : p.rows.now ≡ v.combinations = ap (λ (v : Contents). v.combinations) c.self.view_is in
    let out = c.write_combination-in-Some.new.out in
    let j : c.loop-row.row-index ≡ length ys = omega (arith, c.loop-row-test.false, c.loop-row.invariant.1) in
    let i = ap (λ (k : ℕ). c.loop-row.out ++ combinations (drop k v.combinations)) (sym j) ∙ c.loop-row.invariant.0 in
    let t = turn v p.rows.now (length ys) c.in-Some.last.now true c.loop-row.out out q s c.write_combination-in-Some.ensures in
    let l = ap length q in
    let m = s.ends in
    let n : length v.combinations ≤ length ys + 1 = grind (arith, nat_tests) in
    sym (combinations_all v.combinations (length ys + 1) out n) ∙ t ∙ i

pub returns-in_default : goal.returns-in_default
returns-in_default c =
    let q = ap (λ (v : Contents). length v.combinations) c.self.view_is in
    let z : length c.self.inside.rows.now ≡ 0 = search rules in
    sym (combinations_all c.args.self.now.combinations 0 c.args.out.now (omega arith))
