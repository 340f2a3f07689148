use Rattle.std.proofs.Common.{[], ◌∷◌, ◌++◌, length, ap, ◌∙◌, arith}
use Rattle.frames.proofs.Rooms.{push_room, pushed_room}
use Rattle.link_building.proofs.payload.Payload.push.Goals as goal

pub unwrap-requires : goal.unwrap-requires
unwrap-requires c = push_room 128 c.self.inside.row c.push.result (omega (arith, ap length c.self.view_is, c.requires)) c.push.ensures.answer

pub returns : goal.returns
returns c =
    pushed_room 128 c.args.octet c.self.inside.row c.push.new.self (omega (arith, ap length c.self.view_is, c.requires)) c.push.ensures.items
    ∙ ap (λ xs. xs ++ c.args.octet ∷ []) c.self.view_is
