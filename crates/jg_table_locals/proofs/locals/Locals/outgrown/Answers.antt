use Rattle.std.specs.Prelude.{◌*◌}
use Rattle.std.proofs.Common.{◌∙◌}
use Rattle.jg_table_locals.proofs.Threads.{past_seen}
use Rattle.jg_table_locals.proofs.locals.Locals.outgrown.Goals as goal

pub returns : goal.returns
returns g c = λ e stands.
    c.outgrown_at.ensures ∙ past_seen (λ n. 10 * n) c.self.inside.stacks c.args.self.now e c.args.tid.0 c.self.invariant.once c.self.view_is stands
