use Rattle.std.proofs.Common.{◌≡◌, Some, rules}
use Rattle.jg_table_locals.specs.Seen.{stack_at}
use Rattle.jg_table_locals.proofs.Gathered.{rows_written, on_err}
use Rattle.jg_table_locals.proofs.Tallies.{counts_same}
use Rattle.jg_table_locals.proofs.stacks.open_at.Goals as goal

pub returns-in-Some-clause-err : goal.returns-in-Some-clause-err
returns-in-Some-clause-err g c =
    let is : stack_at c.args.tid c.args.stacks.now ≡ Some c.in-Some.stack.now = search rules in
    on_err c.open.result c.open.ensures.err
    (λ same. rows_written c.args.stacks.now (c.get_mut.follows.lender c.open.new.self) _ c.in-Some.stack.now c.open.new.self
    (c.get_mut.follows.holds c.open.new.self).entries is c.open.ensures.locals same)

pub returns-in-Some-clause-counted : goal.returns-in-Some-clause-counted
returns-in-Some-clause-counted g c =
    let is : stack_at c.args.tid c.args.stacks.now ≡ Some c.in-Some.stack.now = search rules in
    counts_same c.args.stacks.now (c.get_mut.follows.lender c.open.new.self) _ c.in-Some.stack.now c.open.new.self
    (c.get_mut.follows.holds c.open.new.self).entries is c.open.ensures.locals
