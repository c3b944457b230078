use Rattle.std.proofs.Common.{◌≡◌, ◌+◌, ◌∙◌, ap, subst, Some, refl}
use Rattle.std.specs.Prelude.{ℕ, map}
use Rattle.jg_table_locals.specs.Room.{greater}
use Rattle.jg_table_locals.specs.Seen.{last, stack_at, slots_in, frames_in, held_in, room_set, Changes}
use Rattle.jg_table_locals.proofs.Lookups.{reopened}
use Rattle.jg_table_locals.proofs.Tallies.{tallied}
use Rattle.jg_table_locals.proofs.Threads.{table_seen, ensure_step, started_top, room_up}
use Rattle.jg_table_locals.proofs.locals.Locals.ensure.Goals as goal

pub unwrap-top-requires : goal.unwrap-top-requires
unwrap-top-requires g c =
    started_top c.self.inside.stacks c.args.self.now c.args.tid.0 c.top_at.result c.self.invariant.once c.self.view_is c.top_at.ensures c.requires

pub returns-clause-stands : goal.returns-clause-stands
returns-clause-stands g c = λ e stands.
    let slots = slots_in (stack_at c.args.tid.0 c.self.inside.stacks) in
    let frames = frames_in (stack_at c.args.tid.0 c.self.inside.stacks) in
    let is : last frames ≡ Some c.unwrap-top.result = cc in
    let holds : c.held_at.result ≡ held_in (Some c.unwrap-top.result) slots = c.held_at.ensures.held ∙ ap (λ f. held_in f slots) is in
    let room : c.greater.result ≡ greater c.unwrap-top.result.room (c.args.capacity + held_in (Some c.unwrap-top.result) slots) =
    c.greater.ensures ∙ ap (λ n. greater c.unwrap-top.result.room (c.args.capacity + n)) holds in
    let P : ℕ → Type 0 = λ n. Changes c.args.tid.0 c.self.inside.stacks c.set_room_at.new.stacks slots
    (map (room_set n c.unwrap-top.result.depth c.unwrap-top.result.frame) frames) in
    ensure_step c.self.inside.stacks c.set_room_at.new.stacks c.args.tid.0 c.args.capacity c.unwrap-top.result e c.self.invariant.once
    (c.set_room_at.ensures.once c.self.invariant.once) is
    (subst P room c.set_room_at.ensures.changes) (reopened (table_seen c.self.inside.stacks) c.args.self.now e c.self.view_is stands)

pub returns-clause-room : goal.returns-clause-room
returns-clause-room g c = room_up c.self.inside.stacks c.set_room_at.new.stacks c.args.self.now c.args.tid.0 c.self.view_is c.set_room_at.ensures.room

pub invariant_of-self : goal.invariant_of-self
invariant_of-self g c = tallied c.self.inside.stacks c.set_room_at.new.stacks c.self.inside.live c.self.inside.live 0 0 c.self.invariant
    c.set_room_at.ensures.once c.set_room_at.ensures.counted refl
