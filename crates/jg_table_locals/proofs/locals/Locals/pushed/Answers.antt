use Rattle.std.proofs.Common.{◌∙◌}
use Rattle.jg_table_locals.proofs.Lookups.{pushed_told}
use Rattle.jg_table_locals.proofs.Threads.{pushed_seen}
use Rattle.jg_table_locals.proofs.locals.Locals.pushed.Goals as goal

pub returns-clause-rows : goal.returns-clause-rows
returns-clause-rows g c =
    pushed_seen c.self.inside.stacks c.args.self.now c.args.tid.0 c.frame_in.result c.top_at.result c.self.invariant.once c.self.view_is c.top_at.ensures
    (c.frame_in.ensures c.args.tid.0)

pub returns-clause-history : goal.returns-clause-history
returns-clause-history g c =
    λ e stands. pushed_seen c.self.inside.stacks c.args.self.now c.args.tid.0 c.frame_in.result c.top_at.result c.self.invariant.once c.self.view_is
    c.top_at.ensures
    (c.frame_in.ensures c.args.tid.0) ∙ pushed_told c.args.self.now.rows e c.args.tid.0 stands
