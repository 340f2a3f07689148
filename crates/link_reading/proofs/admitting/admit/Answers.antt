use Rattle.std.proofs.Common.{◌≡◌, ◌%◌, ◌∷◌, length, drop, subst, sym, refl, ap, ◌∙◌}
use Rattle.sets.specs.Openings.{Values}
use Rattle.sets.specs.Contents.{Contents}
use Rattle.sets.specs.Rows.{entered}
use Rattle.link_reading.specs.Layout.{coded, halves_if, halves_from, rows_of}
use Rattle.link_reading.specs.Adding.{add_all}
use Rattle.link_reading.proofs.Codings.{Fitting, rows_coded, rows_next, fitting_coded, next_half}
use Rattle.link_reading.proofs.Room.{rows_within}
use Rattle.link_reading.proofs.Holds.{turn_refused, turn_added, all_none, refused_none}
use Rattle.link_reading.proofs.admitting.admit.Goals as goal
use Rattle.link_reading.proofs.admitting.admit.Goals.{After-add}

pub loop-combination-init : goal.loop-combination-init
loop-combination-init c =
    let f = c.args.fields in
    let n = f.subflows in
    let os = c.args.payload.now in
    let rest = drop 1 os in
    let hs = c.of-iptis.result in
    let e : c.into_iter-combination-iterator.result ≡ coded (length rest) n rest = c.into_iter-combination-iterator.ensures.into_iter_gives ∙ c.of-combination-items.ensures ∙ ap (λ xs. coded (length xs) n xs) c.split_at.ensures.back in
    let h : hs ≡ halves_from f.timed f.place os = c.of-iptis.ensures ∙ ap (halves_if f.timed) c.split_at-2.ensures.back in
    let rows : rows_coded n c.into_iter-combination-iterator.result hs ≡ rows_of f os = ap (λ cs. rows_coded n cs hs) e ∙ ap (rows_coded n (coded (length rest) n rest)) h ∙ rows_within os f _ c.requires.read in
    (tt, tt, ap (add_all n f.timed c.args.draft.now.combinations) rows, refl, subst (Fitting n) (sym e) (fitting_coded (length rest) n rest))

-- the row in front of those that are left is the one that is added
next : (c : After-add) → rows_coded c.args.fields.subflows c.loop-combination.combination-iterator c.loop-combination.iptis
    ≡ entered (c.in-Some.combination.head % 64) c.unwrap_or.result c.as_slice.result.now ∷ rows_coded c.args.fields.subflows c.next.new.self c.next-in-loop-combination.new.self
next c =
    let half = next_half c.loop-combination.iptis c.next-in-loop-combination.new.self c.next-in-loop-combination.result c.next-in-loop-combination.ensures.steps in
    rows_next c.args.fields.subflows c.in-Some.combination.head c.unwrap_or.result c.has_wide.result c.in-Some.combination.sizes.now c.as_slice.result.now c.loop-combination.iptis c.next-in-loop-combination.new.self
    c.loop-combination.combination-iterator c.next.new.self c.in-Some.ensures.steps c.has_wide.ensures (c.as_slice.ensures.items ∙ c.read_sizes-sizes.ensures) (c.unwrap_or.ensures ∙ half.0) half.1

pub returns-in_err-add-clause-rows : goal.returns-in_err-add-clause-rows
returns-in_err-add-clause-rows c =
    let f = c.args.fields in
    let l = c.loop-combination in
    let d = l.draft in
    let n = ap (λ (o : Values). o.subflows) l.invariant.3 ∙ c.requires.subflows in
    let t = ap (λ (o : Values). o.timed) l.invariant.3 ∙ c.requires.timed in
    refused_none c.from_residual.result c.add.new.self.combinations c.from_residual.ensures.0
    ∙ turn_refused f.subflows d.opening.subflows f.timed d.opening.timed d.combinations _ _ _ c.in_err-add.field-0.0 n t (next (goal.at.returns-in_err-add-clause-rows c).After-add) c.in_err-add.ensures.answer ∙ l.invariant.2

pub loop-combination-preserved : goal.loop-combination-preserved
loop-combination-preserved c =
    let f = c.args.fields in
    let l = c.loop-combination in
    let d = l.draft in
    let n = ap (λ (o : Values). o.subflows) l.invariant.3 ∙ c.requires.subflows in
    let t = ap (λ (o : Values). o.timed) l.invariant.3 ∙ c.requires.timed in
    let draft = c.in_ok-add.ensures.draft in
    let added = turn_added f.subflows d.opening.subflows f.timed d.opening.timed d.combinations c.add.new.self.combinations _ _ _ n t (next (goal.at.loop-combination-preserved c).After-add) c.in_ok-add.ensures.answer (ap (λ (x : Contents). x.combinations) draft) in
    (tt, tt, added ∙ l.invariant.2, ap (λ (x : Contents). x.opening) draft ∙ l.invariant.3, (subst (Fitting f.subflows) c.in-Some.ensures.steps l.invariant.4).1)

pub returns-clause-rows : goal.returns-clause-rows
returns-clause-rows c =
    let f = c.args.fields in
    let l = c.loop-combination in
    let held = l.draft.combinations in
    let none = ap (λ cs. rows_coded f.subflows cs l.iptis) c.in-None.ensures.steps.0 in
    sym (all_none f.subflows f.timed held) ∙ sym (ap (add_all f.subflows f.timed held) none) ∙ l.invariant.2
