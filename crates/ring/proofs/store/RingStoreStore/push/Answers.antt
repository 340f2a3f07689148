use Rattle.std.proofs.Common.{◌≡◌, ◌++◌, length, ap, sym, subst, ◌∙◌, arith, length-append, rules}
use Rattle.lines.proofs.Queues.{sent}
use Rattle.ring.specs.Round.{held}
use Rattle.ring.specs.Packed.{frames_in, Sound}
use Rattle.ring.proofs.Packs.{room_for, written, frames_push, sound_push}
use Rattle.ring.proofs.store.RingStoreStore.push.Goals as goal

pub write_pair-requires : goal.write_pair-requires
write_pair-requires c =
    let can = room_for c.self.inside.octets c.args.self.now c.self.invariant c.self.view_is (length c.args.frame.now) (search rules) in
    omega arith

pub write-requires : goal.write-requires
write-requires c =
    let can = room_for c.self.inside.octets c.args.self.now c.self.invariant c.self.view_is (length c.args.frame.now) (search rules) in
    let size = ap (λ h. h.size) c.write_pair.ensures in
    let long = ap (λ h. length h.content) c.write_pair.ensures in
    grind (arith, length-append)

whole : (c : goal.After-write) → c.write.new.self ≡ held c.self.inside.octets.size (written c.self.inside.octets c.args.self.now c.self.invariant c.self.view_is c.args.frame.now)
whole c = c.write.ensures ∙ ap (λ h. held h.size (h.content ++ c.args.frame.now)) c.write_pair.ensures

pub invariant_of-self : goal.invariant_of-self
invariant_of-self c =
    let can = room_for c.self.inside.octets c.args.self.now c.self.invariant c.self.view_is (length c.args.frame.now) (search rules) in
    subst Sound (sym (whole c)) (sound_push c.self.inside.octets c.args.self.now c.self.invariant c.self.view_is c.args.frame.now (can.0, can.1))

pub returns-clause-frames : goal.returns-clause-frames
returns-clause-frames c =
    sent (λ s. s.frames) c.args.self.now _ _ c.args.frame.now (search rules)
    (ap (λ h. frames_in h.content) (whole c)
    ∙ frames_push c.self.inside.octets c.args.self.now c.self.invariant c.self.view_is c.args.frame.now)
