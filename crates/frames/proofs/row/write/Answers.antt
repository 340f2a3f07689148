use Rattle.std.proofs.Common.{◌≡◌, ◌+◌, ◌-◌, length, arith}
use Rattle.std.proofs.lemmas.List.{drop-drop}
use Rattle.frames.proofs.row.write.Goals as goal

pub returns : goal.returns
returns g c =
    let p = c.args.place in
    let z = c.args.cells.now in
    let n = length c.args.items.now in
    let d = drop-drop (p + n - p) p z in
    let k : p + (p + n - p) ≡ p + n = omega arith in
    cc
