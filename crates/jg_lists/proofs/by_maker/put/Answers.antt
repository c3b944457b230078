use Rattle.std.proofs.Common.{rules, ◌≡◌, Some}
use Rattle.std.proofs.lemmas.Result.{on_ok_weaker, on_err_weaker}
use Rattle.jg_lists.specs.ByThread.{at}
use Rattle.jg_lists.proofs.Tables.{added_through, written}
use Rattle.jg_lists.proofs.by_maker.put.Goals as goal

pub returns-in-Some-clause-ok : goal.returns-in-Some-clause-ok
returns-in-Some-clause-ok g c =
    let is : at c.args.name.0 c.args.tables.now ≡ Some c.in-Some.numbers.now = search rules in
    on_ok_weaker c.add.result
    (added_through c.args.name c.args.value c.args.tables.now (c.get_mut.follows.lender c.add.new.self) c.in-Some.numbers.now c.add.new.self is
    (c.get_mut.follows.holds c.add.new.self).entries)
    c.add.ensures.added

pub returns-in-Some-clause-err : goal.returns-in-Some-clause-err
returns-in-Some-clause-err g c =
    let is : at c.args.name.0 c.args.tables.now ≡ Some c.in-Some.numbers.now = search rules in
    on_err_weaker c.add.result
    (written c.args.tables.now (c.get_mut.follows.lender c.add.new.self) c.args.name.0 c.in-Some.numbers.now c.add.new.self is
    (c.get_mut.follows.holds c.add.new.self).entries)
    c.add.ensures.err
