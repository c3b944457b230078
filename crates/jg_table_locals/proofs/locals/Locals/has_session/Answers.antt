use Rattle.std.proofs.Common.{◌∙◌}
use Rattle.jg_table_locals.proofs.Lookups.{has_session_law}
use Rattle.jg_table_locals.proofs.Threads.{session_seen}
use Rattle.jg_table_locals.proofs.locals.Locals.has_session.Goals as goal

pub returns-clause-rows : goal.returns-clause-rows
returns-clause-rows g c =
    c.is_some.ensures ∙ session_seen c.self.inside.stacks c.args.self.now c.args.tid.0 c.top_at.result c.self.invariant.once c.self.view_is c.top_at.ensures

pub returns-clause-history : goal.returns-clause-history
returns-clause-history g c =
    λ e stands. c.is_some.ensures
    ∙ (session_seen c.self.inside.stacks c.args.self.now c.args.tid.0 c.top_at.result c.self.invariant.once c.self.view_is c.top_at.ensures
    ∙ has_session_law c.args.self.now.rows e c.args.tid.0 stands)
