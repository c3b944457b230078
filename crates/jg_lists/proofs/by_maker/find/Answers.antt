use Rattle.std.proofs.Common.{rules, ◌≡◌, None, Some, ◌∙◌, ap, sym}
use Rattle.jg_lists.specs.ByThread.{at}
use Rattle.jg_lists.specs.ByMaker.{table_in}
use Rattle.jg_lists.proofs.Tables.{lookup-named}
use Rattle.jg_lists.proofs.by_maker.find.Goals as goal

pub returns-in-None : goal.returns-in-None
returns-in-None g c =
    let none : at c.args.name.0 c.args.tables.now ≡ None = search rules in
    sym (lookup-named c.args.name c.args.tables.now c.get.ensures.once ∙ ap (λ found. at c.args.name.1 (table_in found)) none)

pub returns-in-Some : goal.returns-in-Some
returns-in-Some g c =
    let is : at c.args.name.0 c.args.tables.now ≡ Some c.in-Some.numbers.now = search rules in
    c.get-in-Some.ensures.value ∙ sym (lookup-named c.args.name c.args.tables.now c.get.ensures.once ∙ ap (λ found. at c.args.name.1 (table_in found)) is)
