use Rattle.jg_table_locals.proofs.Lookups.{reopened}
use Rattle.std.proofs.Common.{◌∙◌, refl}
use Rattle.jg_table_locals.proofs.Tallies.{ended_within, tallied_less}
use Rattle.jg_table_locals.proofs.Threads.{table_seen, end_step, spare_is, starts_is}
use Rattle.jg_table_locals.proofs.locals.Locals.drop_thread.Goals as goal

pub returns-clause-stands : goal.returns-clause-stands
returns-clause-stands g c =
    λ e stands. end_step c.self.inside.stacks c.drop_at-ended.new.stacks c.args.tid.0 e c.self.invariant.once
    (c.drop_at-ended.ensures.once c.self.invariant.once)
    c.drop_at-ended.ensures.changes
    (reopened (table_seen c.self.inside.stacks) c.args.self.now e c.self.view_is stands)

pub returns-clause-locals : goal.returns-clause-locals
returns-clause-locals g c = spare_is c.drop_at-ended.new.stacks (table_seen c.drop_at-ended.new.stacks) c.args.tid.0 refl ∙ c.drop_at-ended.ensures.room

pub returns-clause-frames : goal.returns-clause-frames
returns-clause-frames g c = starts_is c.drop_at-ended.new.stacks (table_seen c.drop_at-ended.new.stacks) c.args.tid.0 refl ∙ c.drop_at-ended.ensures.starts

pub invariant_of-self : goal.invariant_of-self
invariant_of-self g c = tallied_less c.self.inside.stacks c.drop_at-ended.new.stacks c.self.inside.live c.drop_at-ended.result c.self.invariant
    c.drop_at-ended.ensures.once
    c.drop_at-ended.ensures.counted

pub overflow_sub-self : goal.overflow_sub-self
overflow_sub-self g c = ended_within c.self.inside.stacks c.drop_at-ended.new.stacks c.self.inside.live c.drop_at-ended.result c.self.invariant
    c.drop_at-ended.ensures.counted
