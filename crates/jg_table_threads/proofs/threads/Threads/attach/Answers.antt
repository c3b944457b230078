use Rattle.std.proofs.lemmas.Bool.{not-true, not-false}
use Rattle.jg_table_threads.proofs.Steps.{attach_law, attach_again_law}
use Rattle.jg_table_threads.proofs.threads.Threads.attach.Goals as goal

pub returns-in_ok-put-clause-ok : goal.returns-in_ok-put-clause-ok
returns-in_ok-put-clause-ok g c = λ e stands.
    attach_law c.self.inside.rows c.put.new.self c.args.self.now e c.args.tid.0 c.row-row.result c.self.view_is
    c.put.ensures.was_once c.put.ensures.once stands c.row-row.ensures (not-true _ c.if-not-row.true) c.in_ok-put.ensures.put

pub returns-else-not-row-clause-ok : goal.returns-else-not-row-clause-ok
returns-else-not-row-clause-ok g c =
    λ e stands. attach_again_law c.args.self.now e c.args.tid.0 c.row-row.result stands c.row-row.ensures (not-false _ c.if-not-row.false)
