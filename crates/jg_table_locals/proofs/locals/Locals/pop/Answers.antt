use Rattle.std.proofs.Common.{◌≡◌, ◌<◌, Some, arith}
use Rattle.jg_table_locals.specs.Seen.{last, stack_at, frames_in}
use Rattle.jg_table_locals.proofs.Lookups.{reopened}
use Rattle.jg_table_locals.proofs.Tallies.{ended_within, tallied_less}
use Rattle.jg_table_locals.proofs.Threads.{table_seen, pop_step, pushed_some, pushed_is, room_up}
use Rattle.jg_table_locals.proofs.locals.Locals.pop.Goals as goal

pub unwrap-top-requires : goal.unwrap-top-requires
unwrap-top-requires g c =
    pushed_some c.self.inside.stacks c.args.self.now c.args.tid.0 c.top_at.result c.self.invariant.once c.self.view_is c.top_at.ensures c.requires

pub returns-clause-stands : goal.returns-clause-stands
returns-clause-stands g c = λ e stands.
    let is : last (frames_in (stack_at c.args.tid.0 c.self.inside.stacks)) ≡ Some c.unwrap-top.result = cc in
    let some : 0 < c.unwrap-top.result.frame =
    omega (arith, pushed_is c.self.inside.stacks c.args.self.now c.args.tid.0 c.unwrap-top.result c.self.invariant.once c.self.view_is is, c.requires) in
    pop_step c.self.inside.stacks c.pop_at-ended.new.stacks c.args.tid.0 c.unwrap-top.result e c.self.invariant.once
    (c.pop_at-ended.ensures.once c.self.invariant.once) is some
    c.pop_at-ended.ensures.changes
    (reopened (table_seen c.self.inside.stacks) c.args.self.now e c.self.view_is stands)

pub returns-clause-room : goal.returns-clause-room
returns-clause-room g c = room_up c.self.inside.stacks c.pop_at-ended.new.stacks c.args.self.now c.args.tid.0 c.self.view_is c.pop_at-ended.ensures.room

pub invariant_of-self : goal.invariant_of-self
invariant_of-self g c = tallied_less c.self.inside.stacks c.pop_at-ended.new.stacks c.self.inside.live c.pop_at-ended.result c.self.invariant
    c.pop_at-ended.ensures.once c.pop_at-ended.ensures.counted

pub overflow_sub-self : goal.overflow_sub-self
overflow_sub-self g c = ended_within c.self.inside.stacks c.pop_at-ended.new.stacks c.self.inside.live c.pop_at-ended.result c.self.invariant
    c.pop_at-ended.ensures.counted
