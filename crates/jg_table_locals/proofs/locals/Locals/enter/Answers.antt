use Rattle.std.proofs.Common.{◌≡◌, ◌+◌, ◌^◌, ◌<◌, Some, refl, arith, rules}
use Rattle.std.proofs.lemmas.Result.{on_ok_weaker}
use Rattle.jg_table_locals.specs.Seen.{last, stack_at, frames_in}
use Rattle.jg_table_locals.proofs.Lookups.{reopened}
use Rattle.jg_table_locals.proofs.Tallies.{tallied}
use Rattle.jg_table_locals.proofs.Threads.{table_seen, enter_step, started_top, entered_is, room_up}
use Rattle.jg_table_locals.proofs.locals.Locals.enter.Goals as goal

pub unwrap-top-requires : goal.unwrap-top-requires
unwrap-top-requires g c =
    started_top c.self.inside.stacks c.args.self.now c.args.tid.0 c.top_at.result c.self.invariant.once c.self.view_is c.top_at.ensures c.requires.started

pub overflow_add-top : goal.overflow_add-top
overflow_add-top g c =
    let is : last (frames_in (stack_at c.args.tid.0 c.self.inside.stacks)) ≡ Some c.unwrap-top.result = cc in
    let at = entered_is c.self.inside.stacks c.args.self.now c.args.tid.0 c.unwrap-top.result c.self.invariant.once c.self.view_is is in
    let below : c.unwrap-top.result.depth + 1 < 2 ^ 64 = omega (arith, at, c.requires.fits) in
    search rules

pub returns-clause-ok : goal.returns-clause-ok
returns-clause-ok g c = on_ok_weaker c.open_at.result (λ changes. λ e stands.
    let is : last (frames_in (stack_at c.args.tid.0 c.self.inside.stacks)) ≡ Some c.unwrap-top.result = cc in
    enter_step c.self.inside.stacks c.open_at.new.stacks c.args.tid.0 c.unwrap-top.result e c.self.invariant.once (c.open_at.ensures.once c.self.invariant.once)
    is changes
    (reopened (table_seen c.self.inside.stacks) c.args.self.now e c.self.view_is stands)) c.open_at.ensures.ok

pub returns-clause-room : goal.returns-clause-room
returns-clause-room g c = room_up c.self.inside.stacks c.open_at.new.stacks c.args.self.now c.args.tid.0 c.self.view_is c.open_at.ensures.room

pub invariant_of-self : goal.invariant_of-self
invariant_of-self g c = tallied c.self.inside.stacks c.open_at.new.stacks c.self.inside.live c.self.inside.live 0 0 c.self.invariant c.open_at.ensures.once
    c.open_at.ensures.counted refl
