use Rattle.jg_table_locals.proofs.Lookups.{reopened}
use Rattle.jg_table_locals.proofs.Tallies.{ended_within, tallied_less}
use Rattle.jg_table_locals.proofs.Threads.{table_seen, delete_step, room_up}
use Rattle.jg_table_locals.proofs.locals.Locals.delete.Goals as goal

pub returns-clause-stands : goal.returns-clause-stands
returns-clause-stands g c = λ e stands. delete_step c.self.inside.stacks c.delete_at-ended.new.stacks c.args.tid.0 c.args.n e c.self.invariant.once
    (c.delete_at-ended.ensures.once c.self.invariant.once)
    c.delete_at-ended.ensures.changes (reopened (table_seen c.self.inside.stacks) c.args.self.now e c.self.view_is stands)

pub returns-clause-room : goal.returns-clause-room
returns-clause-room g c = room_up c.self.inside.stacks c.delete_at-ended.new.stacks c.args.self.now c.args.tid.0 c.self.view_is c.delete_at-ended.ensures.room

pub invariant_of-self : goal.invariant_of-self
invariant_of-self g c = tallied_less c.self.inside.stacks c.delete_at-ended.new.stacks c.self.inside.live c.delete_at-ended.result c.self.invariant
    c.delete_at-ended.ensures.once
    c.delete_at-ended.ensures.counted

pub overflow_sub-self : goal.overflow_sub-self
overflow_sub-self g c = ended_within c.self.inside.stacks c.delete_at-ended.new.stacks c.self.inside.live c.delete_at-ended.result c.self.invariant
    c.delete_at-ended.ensures.counted
