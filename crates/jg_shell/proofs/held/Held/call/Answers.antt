use Rattle.jg_shell.proofs.Places.{told_where_taken}
use Rattle.jg_shell.proofs.held.Held.call.Goals as goal

pub returns-in-Ok-clause-entry : goal.returns-in-Ok-clause-entry
returns-in-Ok-clause-entry g c =
    told_where_taken c.args.self.now c.take.new.self c.args.tid c.args.env c.args.call c.take.result c.take.ensures.taken c.take.ensures.place
    c.take.ensures.receipt
