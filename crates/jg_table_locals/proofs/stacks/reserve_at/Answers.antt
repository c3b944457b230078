use Rattle.std.proofs.Common.{◌≡◌, Some, rules}
use Rattle.jg_table_locals.specs.Seen.{stack_at}
use Rattle.jg_table_locals.proofs.Gathered.{rows_written}
use Rattle.jg_table_locals.proofs.Tallies.{counts_same}
use Rattle.jg_table_locals.proofs.stacks.reserve_at.Goals as goal

pub returns-in-Some-clause-rows : goal.returns-in-Some-clause-rows
returns-in-Some-clause-rows g c =
    let is : stack_at c.args.tid c.args.stacks.now ≡ Some c.in-Some.stack.now = search rules in
    rows_written c.args.stacks.now (c.get_mut.follows.lender c.reserve.new.self) _ c.in-Some.stack.now c.reserve.new.self
    (c.get_mut.follows.holds c.reserve.new.self).entries is
    c.reserve.ensures.locals c.reserve.ensures.frames

pub returns-in-Some-clause-counted : goal.returns-in-Some-clause-counted
returns-in-Some-clause-counted g c =
    let is : stack_at c.args.tid c.args.stacks.now ≡ Some c.in-Some.stack.now = search rules in
    counts_same c.args.stacks.now (c.get_mut.follows.lender c.reserve.new.self) _ c.in-Some.stack.now c.reserve.new.self
    (c.get_mut.follows.holds c.reserve.new.self).entries is
    c.reserve.ensures.locals
