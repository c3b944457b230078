use Rattle.std.proofs.Common.{◌<◌, ◌+◌, ◌^◌, length, refl, arith, rules}
use Rattle.jg_table_locals.specs.Seen.{last, stack_at, frames_in}
use Rattle.jg_table_locals.proofs.Lookups.{reopened}
use Rattle.jg_table_locals.proofs.Tallies.{live_bound, tallied}
use Rattle.jg_table_locals.proofs.Threads.{table_seen, make_step, newest_there, started_top, above_slots, above_in, room_from, room_one, ok_not_err}
use Rattle.jg_table_locals.proofs.locals.Locals.make.Goals as goal

pub make_at-requires-clause-started : goal.make_at-requires-clause-started
make_at-requires-clause-started g c =
    started_top c.self.inside.stacks c.args.self.now c.args.tid.0 _ c.self.invariant.once c.self.view_is refl c.requires.started

pub make_at-requires-clause-above : goal.make_at-requires-clause-above
make_at-requires-clause-above g c = above_slots c.self.inside.stacks c.args.tid.0 c.args.n c.self.invariant.once
    (above_in c.self.inside.stacks c.args.self.now c.args.tid.0 c.args.n c.self.view_is c.requires.above)

pub overflow_add-self : goal.overflow_add-self
overflow_add-self g c =
    let few : length c.seats-stacks.result.now < 2 ^ 63 = search rules in
    omega (arith, live_bound c.seats-stacks.result.now c.self.inside.stacks c.self.inside.live c.seats-stacks.ensures.seats few c.self.invariant)

pub invariant_of-self : goal.invariant_of-self
invariant_of-self g c =
    tallied c.self.inside.stacks c.make_at.new.stacks c.self.inside.live c.self.inside.live 0 0 c.self.invariant c.make_at.ensures.once
    c.in_err-make_at.ensures.refused refl

pub invariant_of-self-2 : goal.invariant_of-self-2
invariant_of-self-2 g c =
    tallied c.self.inside.stacks c.make_at.new.stacks c.self.inside.live (c.self.inside.live + 1) 1 0 c.self.invariant c.make_at.ensures.once
    c.in_ok-make_at.ensures.made (omega arith)

pub returns-clause-ok : goal.returns-clause-ok
returns-clause-ok g c = λ e stands.
    let top = newest_there (last (frames_in (stack_at c.args.tid.0 c.self.inside.stacks)))
    (started_top c.self.inside.stacks c.args.self.now c.args.tid.0 _ c.self.invariant.once c.self.view_is refl c.requires.started) in
    make_step c.self.inside.stacks c.make_at.new.stacks c.args.tid.0 c.args.n c.args.object.0 top.0 e c.self.invariant.once
    (c.make_at.ensures.once c.self.invariant.once) top.1
    (above_in c.self.inside.stacks c.args.self.now c.args.tid.0 c.args.n c.self.view_is c.requires.above) (c.in_ok-make_at.ensures.ok top.0 top.1)
    (reopened (table_seen c.self.inside.stacks) c.args.self.now e c.self.view_is stands)

-- refused, there was no room
pub returns-in_err-make_at-clause-room : goal.returns-in_err-make_at-clause-room
returns-in_err-make_at-clause-room g c =
    λ some. absurd (ok_not_err c.make_at.result _ (c.make_at.ensures.room (room_from c.self.inside.stacks c.args.self.now c.args.tid.0 c.self.view_is some))
    c.in_err-make_at.was)

pub returns-clause-lowered : goal.returns-clause-lowered
returns-clause-lowered g c = room_one c.self.inside.stacks c.make_at.new.stacks c.args.self.now c.args.tid.0 c.self.view_is c.make_at.ensures.lowered

pub returns-in_err-make_at-clause-lowered : goal.returns-in_err-make_at-clause-lowered
returns-in_err-make_at-clause-lowered g c =
    room_one c.self.inside.stacks c.make_at.new.stacks c.args.self.now c.args.tid.0 c.self.view_is c.make_at.ensures.lowered
