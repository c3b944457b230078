use Rattle.std.proofs.Common.{rules, ◌≡◌, None, Some, ◌∙◌, ap, sym}
use Rattle.jg_lists.specs.ByThread.{at}
use Rattle.jg_lists.specs.ByMaker.{table_in}
use Rattle.jg_lists.proofs.Tables.{lookup-named, written, dropped, once_left, drops_through, drops_none, taken_through}
use Rattle.jg_lists.proofs.by_maker.take.Goals as goal

pub returns-in-Some-clause-was : goal.returns-in-Some-clause-was
returns-in-Some-clause-was g c =
    let is : at c.args.name.0 c.args.tables.now ≡ Some c.in-Some.numbers.now = search rules in
    c.remove.ensures.was ∙ sym (lookup-named c.args.name c.args.tables.now c.get_mut.ensures.once ∙ ap (λ found. at c.args.name.1 (table_in found)) is)

pub returns-in-Some-clause-drops : goal.returns-in-Some-clause-drops
returns-in-Some-clause-drops g c =
    let is : at c.args.name.0 c.args.tables.now ≡ Some c.in-Some.numbers.now = search rules in
    dropped c.args.name c.args.tables.now (c.get_mut.follows.lender c.remove.new.self)
    (drops_through c.args.name c.args.tables.now (c.get_mut.follows.lender c.remove.new.self) c.in-Some.numbers.now c.remove.new.self is
    (c.get_mut.follows.holds c.remove.new.self) c.get_mut.ensures.once
    c.remove.ensures.removed c.remove.ensures.once)

pub returns-in-Some-clause-taken : goal.returns-in-Some-clause-taken
returns-in-Some-clause-taken g c =
    let is : at c.args.name.0 c.args.tables.now ≡ Some c.in-Some.numbers.now = search rules in
    taken_through c.args.name c.remove.result c.args.tables.now (c.get_mut.follows.lender c.remove.new.self) c.in-Some.numbers.now c.remove.new.self is
    (c.get_mut.follows.holds c.remove.new.self).entries
    c.remove.ensures.taken

pub returns-in-Some-clause-none : goal.returns-in-Some-clause-none
returns-in-Some-clause-none g c none =
    let is : at c.args.name.0 c.args.tables.now ≡ Some c.in-Some.numbers.now = search rules in
    written c.args.tables.now (c.get_mut.follows.lender c.remove.new.self) c.args.name.0 c.in-Some.numbers.now c.remove.new.self is
    (c.get_mut.follows.holds c.remove.new.self).entries (c.remove.ensures.none none)

pub returns-in-Some-clause-once : goal.returns-in-Some-clause-once
returns-in-Some-clause-once g c = λ q.
    let is : at c.args.name.0 c.args.tables.now ≡ Some c.in-Some.numbers.now = search rules in
    once_left c.args.name q c.args.tables.now (c.get_mut.follows.lender c.remove.new.self)
    (drops_through c.args.name c.args.tables.now (c.get_mut.follows.lender c.remove.new.self) c.in-Some.numbers.now c.remove.new.self is
    (c.get_mut.follows.holds c.remove.new.self) c.get_mut.ensures.once
    c.remove.ensures.removed c.remove.ensures.once)

pub returns-in-None-clause-was : goal.returns-in-None-clause-was
returns-in-None-clause-was g c =
    let none : at c.args.name.0 c.args.tables.now ≡ None = search rules in
    sym (lookup-named c.args.name c.args.tables.now c.get_mut.ensures.once ∙ ap (λ found. at c.args.name.1 (table_in found)) none)

pub returns-in-None-clause-drops : goal.returns-in-None-clause-drops
returns-in-None-clause-drops g c =
    let none : at c.args.name.0 c.args.tables.now ≡ None = search rules in
    dropped c.args.name c.args.tables.now c.get_mut.follows.lender-at-none
    (drops_none c.args.name c.args.tables.now c.get_mut.follows.lender-at-none none c.get_mut.follows.holds-at-none c.get_mut.ensures.once)
