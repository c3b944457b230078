use Rattle.jg_table_locals.proofs.Above.{above_live}
use Rattle.jg_table_locals.proofs.Threads.{above_seen}
use Rattle.jg_table_locals.proofs.locals.Locals.is_above.Goals as goal

pub returns-clause-rows : goal.returns-clause-rows
returns-clause-rows g c =
    above_seen c.self.inside.stacks c.args.self.now c.args.tid.0 c.args.n c.is_above_at.result c.self.invariant.once c.self.view_is c.is_above_at.ensures

pub returns-clause-history : goal.returns-clause-history
returns-clause-history g c = λ e stands. above_live c.args.self.now.rows e c.args.tid.0 c.args.n c.is_above_at.result stands
    (above_seen c.self.inside.stacks c.args.self.now c.args.tid.0 c.args.n c.is_above_at.result c.self.invariant.once c.self.view_is c.is_above_at.ensures)
