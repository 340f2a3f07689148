-- The chunks of eight that a list is cut in.
-- Assumes nothing.
use Rattle.std.proofs.Common.{◌≡◌, ℕ, ◌+◌, ◌*◌, ◌/◌, ◌<◌, true, ltb, List, length, take, drop, Some, ap, ◌∙◌, arith}
use Rattle.std.proofs.lemmas.Bool.{lt-ltb}
use denote.Ref.{Bor}
use Rattle.std.specs.declared.slice.Chunks.{Chunks}
use Rattle.std.specs.Slice.Iter.{chunks_rest, chunks_size, chunks_steps}
use Rattle.std.specs.Iterator.Runs.{EveryRun, SomeRun, IsChunksRun}
use Rattle.sets.specs.Rows.{Row}
use Rattle.sets.specs.Openings.{Values}
use Rattle.link_building.specs.Wire.{part_of}

abbrev pub Cut : Type 0
Cut = EveryRun (chunks_steps {A = Row}) (λ p. 0 < chunks_size p.from → IsChunksRun p (chunks_size p.from) (chunks_rest p.from))

pub chunk_there : (xs : List Row) (it : Chunks Row) (n : ℕ) (b : Bor (List Row)) → chunks_rest it ≡ xs → chunks_size it ≡ 8 → Cut
    → SomeRun chunks_steps it (λ p. (p.len ≡ n + 1) × (p.at n ≡ Some b)) → (8 * n < length xs) × (b.now ≡ take 8 (drop (8 * n) xs))
chunk_there xs it n b e z cut r =
    let p = r.0 in
    let f : p.from ≡ it = r.1 in
    let s : chunks_size p.from ≡ 8 = ap chunks_size f ∙ z in
    let x : chunks_rest p.from ≡ xs = ap chunks_rest f ∙ e in
    let k = (cut p p.seen (omega arith)).2 n in
    let i = rw r.2.1 at k in
    let m : n * 8 ≡ 8 * n = omega arith in
    let l : n * 8 < length xs = rw (s, x) at i.1 in
    let t : b.now ≡ take 8 (drop (n * 8) xs) = rw (s, x) at i.2.0 in
    (omega arith, t ∙ ap (λ j. take 8 (drop j xs)) m)

-- the chunk with number k of a set's rows is the part that link k bears
pub part_is : (k : ℕ) (o : Values) (rs : List Row) → 8 * k < length rs → Some (record { opening = o; combinations = take 8 (drop (8 * k) rs) }) ≡ part_of k (record { opening = o; combinations = rs })
part_is k o rs h =
    let t : ltb k ((length rs + 7) / 8) ≡ true = lt-ltb _ _ (omega arith) in
    rw t
