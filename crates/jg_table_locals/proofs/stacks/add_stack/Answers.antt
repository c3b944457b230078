use Rattle.jg_table_locals.proofs.Gathered.{rows_added}
use Rattle.jg_table_locals.proofs.Tallies.{counts_added}
use Rattle.jg_table_locals.proofs.stacks.add_stack.Goals as goal

pub returns-clause-rows : goal.returns-clause-rows
returns-clause-rows g c =
    rows_added c.args.stacks.now c.add.new.self c.args.tid c.new-stack.result c.in_ok-add.ensures.added c.new-stack.ensures.locals c.new-stack.ensures.frames

pub returns-clause-counted : goal.returns-clause-counted
returns-clause-counted g c =
    counts_added c.args.stacks.now c.add.new.self c.args.tid c.new-stack.result c.in_ok-add.ensures.added c.new-stack.ensures.locals c.new-stack.ensures.frames
