use Rattle.std.proofs.Common.{◌∙◌, ap}
use Rattle.jg_table_locals.specs.Room.{crowded}
use Rattle.jg_table_locals.proofs.Threads.{past_seen}
use Rattle.jg_table_locals.proofs.locals.Locals.crowded.Goals as goal

pub returns-clause-history : goal.returns-clause-history
returns-clause-history g c = λ e stands.
    c.crowded_at.ensures ∙ past_seen (λ n. n) c.self.inside.stacks c.args.self.now e c.args.tid.0 c.self.invariant.once c.self.view_is stands

pub returns-clause-own_thread : goal.returns-clause-own_thread
returns-clause-own_thread g c = λ e f stands same. returns-clause-history g c e stands ∙ ap crowded same
