use Rattle.std.proofs.Common.{◌≡◌, ◌+◌, ◌*◌, ◌++◌, drop, length, arith, ap, sym, refl, subst, ◌∙◌, rules, take-append-drop}
use Rattle.std.specs.Array.{IsFirstChunk}
use Rattle.lines.proofs.Queues.{popped_none}
use Rattle.ring.specs.Round.{held}
use Rattle.ring.specs.Packed.{frames_in, Sound}
use Rattle.ring.proofs.Packs.{frames_none, frames_pop, sound_pop, read_fits, pair}
use Rattle.ring.proofs.store.RingStoreStore.pop.Goals as goal

pub returns-then-none-clause-frames : goal.returns-then-none-clause-frames
returns-then-none-clause-frames c =
    let o = c.args.out.now in
    let chunk : IsFirstChunk o c.in_ok-start.start.now 512 = search rules in
    let bare : length c.self.inside.octets.content ≡ 0 = search rules in
    popped_none (λ t. t.frames) c.args.self.now c.args.self.now o _ _ chunk.enough
    (sym (ap (λ t. t.frames) c.self.view_is) ∙ frames_none c.self.inside.octets.content bare)
    refl refl (ap (λ x. x ++ drop 512 o) chunk.same ∙ take-append-drop 512 o)

pub read-requires-clause-room : goal.read-requires-clause-room
read-requires-clause-room c =
    let chunk : IsFirstChunk c.args.out.now c.in_ok-start.start.now 512 = search rules in
    read_fits c.self.inside.octets c.self.invariant _ _ _ (ap (λ h. h.content) c.read_pair-high.ensures) c.args.out.now c.in_ok-start.start.now chunk.enough chunk.same

pub invariant_of-self : goal.invariant_of-self
invariant_of-self c =
    let o = c.self.inside.octets in
    let n = c.read_pair-high.result.0 * 256 + c.read_pair-high.result.1 in
    let size = sym (ap (λ h. h.size) c.read_pair-high.ensures) in
    let left : c.read.new.self ≡ held o.size (drop n c.read_pair-high.new.self.content) = c.read.ensures.left ∙ ap (λ k. held k (drop n c.read_pair-high.new.self.content)) size in
    subst Sound (sym left) (sound_pop o c.self.invariant _ _ _ (ap (λ h. h.content) c.read_pair-high.ensures))

pub returns-clause-frames : goal.returns-clause-frames
returns-clause-frames c =
    let o = c.args.out.now in
    let chunk : IsFirstChunk o c.in_ok-start.start.now 512 = search rules in
    frames_pop c.self.inside.octets c.self.invariant _ _ _ (ap (λ h. h.content) c.read_pair-high.ensures) c.args.self.now _ o c.in_ok-start.start.now c.read.new.out c.args.self.now.frames chunk.enough chunk.same
    (ap (λ t. t.frames) c.self.view_is) refl (ap (λ h. frames_in h.content) c.read.ensures.left) c.read.ensures.out

pub read_pair-high-requires : goal.read_pair-high-requires
read_pair-high-requires c =
    let used = c.used-none.ensures in
    let some = c.if-none.false in
    pair c.self.inside.octets c.self.invariant (grind arith)
