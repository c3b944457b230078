use Rattle.jg_table_locals.specs.Seen.{rows_seen}
use Rattle.jg_table_locals.proofs.Lookups.{reopened}
use Rattle.jg_table_locals.proofs.Held.{holds_law}
use Rattle.jg_table_locals.proofs.Threads.{table_seen, any_seen}
use Rattle.jg_table_locals.proofs.locals.Locals.mark_held.Goals as goal

-- the rows' objects are those that live locals hold
pub returns : goal.returns
returns g c = λ e stands o. rw (
  ← holds_law (rows_seen c.self.inside.stacks) e o (reopened (table_seen c.self.inside.stacks) c.args.self.now e c.self.view_is stands),
  ← any_seen o c.self.inside.stacks,
) (c.mark_named_in.ensures o)
