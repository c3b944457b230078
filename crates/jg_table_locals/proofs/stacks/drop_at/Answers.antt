use Rattle.jg_table_locals.proofs.Tallies.{counts_dropped}
use Rattle.jg_table_locals.proofs.stacks.drop_at.Goals as goal

pub returns-in-Some-clause-counted : goal.returns-in-Some-clause-counted
returns-in-Some-clause-counted g c =
    counts_dropped c.args.stacks.now c.remove.new.self c.args.tid c.in-Some.stack c.len.result c.in-Some.ensures.taken c.len.ensures
