use Rattle.std.proofs.Common.{◌≡◌, Some, arith, rules}
use Rattle.std.proofs.lemmas.Result.{on_ok_weaker}
use Rattle.jg_table_locals.specs.Seen.{stack_at}
use Rattle.jg_table_locals.proofs.Gathered.{rows_written, on_err}
use Rattle.jg_table_locals.proofs.Tallies.{counts_same, counts_written}
use Rattle.jg_table_locals.proofs.stacks.make_at.Goals as goal

pub returns-in-Some-clause-err : goal.returns-in-Some-clause-err
returns-in-Some-clause-err g c =
    let is : stack_at c.args.tid c.args.stacks.now ≡ Some c.in-Some.stack.now = search rules in
    on_err c.make.result c.make.ensures.err
    (λ same. rows_written c.args.stacks.now (c.get_mut.follows.lender c.make.new.self) _ c.in-Some.stack.now c.make.new.self
    (c.get_mut.follows.holds c.make.new.self).entries is same c.make.ensures.frames)

pub returns-in-Some-clause-made : goal.returns-in-Some-clause-made
returns-in-Some-clause-made g c =
    let is : stack_at c.args.tid c.args.stacks.now ≡ Some c.in-Some.stack.now = search rules in
    on_ok_weaker c.make.result (λ more. counts_written c.args.stacks.now (c.get_mut.follows.lender c.make.new.self) _ c.in-Some.stack.now c.make.new.self 1 0
    (c.get_mut.follows.holds c.make.new.self).entries is
    (omega (arith, more.0)) (λ fits. more.1)) c.make.ensures.made

pub returns-in-Some-clause-refused : goal.returns-in-Some-clause-refused
returns-in-Some-clause-refused g c =
    let is : stack_at c.args.tid c.args.stacks.now ≡ Some c.in-Some.stack.now = search rules in
    on_err c.make.result c.make.ensures.err
    (λ same. counts_same c.args.stacks.now (c.get_mut.follows.lender c.make.new.self) _ c.in-Some.stack.now c.make.new.self
    (c.get_mut.follows.holds c.make.new.self).entries is same)
