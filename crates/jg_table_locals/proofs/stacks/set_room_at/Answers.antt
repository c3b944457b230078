use Rattle.std.proofs.Common.{◌≡◌, Some, rules}
use Rattle.jg_table_locals.specs.Seen.{stack_at}
use Rattle.jg_table_locals.proofs.Tallies.{counts_same}
use Rattle.jg_table_locals.proofs.stacks.set_room_at.Goals as goal

pub returns-in-Some-clause-counted : goal.returns-in-Some-clause-counted
returns-in-Some-clause-counted g c =
    let is : stack_at c.args.tid c.args.stacks.now ≡ Some c.in-Some.stack.now = search rules in
    counts_same c.args.stacks.now (c.get_mut.follows.lender c.set_room.new.self) _ c.in-Some.stack.now c.set_room.new.self
    (c.get_mut.follows.holds c.set_room.new.self).entries is
    c.set_room.ensures.locals
