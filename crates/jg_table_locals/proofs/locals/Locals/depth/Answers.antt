use Rattle.std.proofs.Common.{◌∙◌}
use Rattle.jg_table_locals.proofs.Lookups.{depth_law}
use Rattle.jg_table_locals.proofs.Threads.{depth_seen}
use Rattle.jg_table_locals.proofs.locals.Locals.depth.Goals as goal

pub returns-clause-rows : goal.returns-clause-rows
returns-clause-rows g c =
    depth_seen c.self.inside.stacks c.args.self.now c.args.tid.0 c.depth_in.result c.top_at.result c.self.invariant.once c.self.view_is c.top_at.ensures
    (c.depth_in.ensures c.args.tid.0)

pub returns-clause-history : goal.returns-clause-history
returns-clause-history g c =
    λ e stands. depth_seen c.self.inside.stacks c.args.self.now c.args.tid.0 c.depth_in.result c.top_at.result c.self.invariant.once c.self.view_is
    c.top_at.ensures
    (c.depth_in.ensures c.args.tid.0) ∙ depth_law c.args.self.now.rows e c.args.tid.0 stands
