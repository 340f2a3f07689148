use Rattle.std.proofs.Common.{◌≡◌}
use Rattle.link_reading.specs.Layout.{rows_of}
use Rattle.link_reading.specs.Adding.{add_all}
use Rattle.link_reading.proofs.Codings.{Fitting, rows_coded}
use Rattle.link_reading.proofs.admitting.admit.Given as goal

abbrev pub invariant-loop-combination : goal.invariant-loop-combination
invariant-loop-combination l =
    let f = l.fields in
    let left = l.combination-iterator in
    (goal.iterator-loop-combination).can_next left
    × (goal.iterator-loop-combination).is_finite left
    × (add_all f.subflows f.timed l.draft.combinations (rows_coded f.subflows left l.iptis) ≡ add_all f.subflows f.timed l.initial.draft.combinations (rows_of f l.payload))
    × (l.draft.opening ≡ l.initial.draft.opening)
    × Fitting f.subflows left
