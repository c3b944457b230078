use Rattle.std.proofs.Common.{◌∙◌, ap}
use Rattle.std.specs.Prelude.{map}
use Rattle.jg_table_locals.specs.Seen.{room_set, StackRows}
use Rattle.jg_table_locals.proofs.Keeping.{opens_ascending, set_stacked, set_frames}
use Rattle.jg_table_locals.proofs.stack.Stack.set_room.Goals as goal

pub set_room-requires : goal.set_room-requires
set_room-requires g c = opens_ascending c.self.inside.slots.items c.self.inside.frames.items c.self.invariant.0

pub invariant_of-self : goal.invariant_of-self
invariant_of-self g c = (
  set_stacked c.self.inside.slots.items c.self.inside.frames.items _ c.args.room c.args.frame.depth c.args.frame.frame c.self.invariant.0
      c.set_room.ensures.set,
  c.self.invariant.1,
  c.self.invariant.2,
)

pub returns-clause-frames : goal.returns-clause-frames
returns-clause-frames g c = set_frames c.self.inside.frames.items _ c.args.room c.args.frame.depth c.args.frame.frame c.set_room.ensures.set
    ∙ ap (λ (r : StackRows). map (room_set c.args.room c.args.frame.depth c.args.frame.frame) r.frames) c.self.view_is
