use Rattle.std.proofs.Common.{subst, sym}
use Rattle.frames.proofs.Rooms.{push_room, pushed_room}
use Rattle.sets.specs.Tables.{SoundTable}
use Rattle.sets.proofs.Tabled.{table_room, push_sound}
use Rattle.sets.proofs.table.Table.push.Goals as goal

pub unwrap-requires : goal.unwrap-requires
unwrap-requires c = push_room 32 c.args.self.now.combinations c.push.result (table_room c.args.self.now c.args.combination c.requires.admitted) c.push.ensures.answer

pub returns-clause-rows : goal.returns-clause-rows
returns-clause-rows c = pushed_room 32 c.args.combination c.args.self.now.combinations c.push.new.self (table_room c.args.self.now c.args.combination c.requires.admitted) c.push.ensures.items

pub returns-clause-sound : goal.returns-clause-sound
returns-clause-sound c =
    let t = c.args.self.now in
    let e = pushed_room 32 c.args.combination t.combinations c.push.new.self (table_room t c.args.combination c.requires.admitted) c.push.ensures.items in
    subst (λ rs. SoundTable (record { opening = t.opening; combinations = rs })) (sym e) (push_sound t c.args.combination c.requires.sound c.requires.admitted)
