use Rattle.std.proofs.Common.{◌≡◌, Some, rules}
use Rattle.jg_table_locals.specs.Seen.{stack_at}
use Rattle.jg_table_locals.proofs.Tallies.{counts_ended}
use Rattle.jg_table_locals.proofs.stacks.pop_at.Goals as goal

pub returns-in-Some-clause-counted : goal.returns-in-Some-clause-counted
returns-in-Some-clause-counted g c =
    let is : stack_at c.args.tid c.args.stacks.now ≡ Some c.in-Some.stack.now = search rules in
    counts_ended c.args.stacks.now (c.get_mut.follows.lender c.pop.new.self) _ c.in-Some.stack.now c.pop.new.self _
    (c.get_mut.follows.holds c.pop.new.self).entries is c.pop.ensures.ended
