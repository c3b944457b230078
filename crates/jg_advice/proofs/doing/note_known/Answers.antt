use Rattle.std.proofs.Common.{rules, ◌≡◌, ◌∙◌, None, Some, ap, sym}
use Rattle.std.specs.Prelude.{if◌then◌else◌}
use Rattle.std.specs.Map.{lookup}
use Rattle.std.specs.Option.{option_map}
use Rattle.jg_lists.specs.ByThread.{at}
use Rattle.jg_lists.specs.ByMaker.{named, same_name, table_in}
use Rattle.jg_lists.proofs.Tables.{lookup-named}
use Rattle.jg_rows.specs.Columns.{columns}
use Rattle.jg_advice.specs.Doing.{doing_after}
use Rattle.jg_advice.proofs.Replaced.{none_changed, replaced}
use Rattle.jg_advice.proofs.doing.note_known.Goals as goal

pub returns-in-None-clause-before : goal.returns-in-None-clause-before
returns-in-None-clause-before c =
    let none : at c.args.name.0 c.args.doings.now ≡ None = search rules in
    sym (lookup-named c.args.name c.args.doings.now c.get_mut.ensures.once ∙ ap (λ found. at c.args.name.1 (table_in found)) none)

pub returns-in-None-clause-noted : goal.returns-in-None-clause-noted
returns-in-None-clause-noted c = λ q.
    let none : at c.args.name.0 c.args.doings.now ≡ None = search rules in
    ap (λ tables. lookup (same_name q) (named tables)) c.get_mut.follows.holds-at-none
    ∙ none_changed c.args.name q (doing_after (Some (columns c.args.row.now)) c.args.throws c.args.call) (named c.args.doings.now)
    (lookup-named c.args.name c.args.doings.now c.get_mut.ensures.once ∙ ap (λ found. at c.args.name.1 (table_in found)) none)

pub returns-in-Some-clause-before : goal.returns-in-Some-clause-before
returns-in-Some-clause-before c =
    let is : at c.args.name.0 c.args.doings.now ≡ Some c.in-Some.numbers.now = search rules in
    c.note_in.ensures.before ∙ sym (lookup-named c.args.name c.args.doings.now c.get_mut.ensures.once ∙ ap (λ found. at c.args.name.1 (table_in found)) is)

pub returns-in-Some-clause-noted : goal.returns-in-Some-clause-noted
returns-in-Some-clause-noted c = λ q.
    let f = doing_after (Some (columns c.args.row.now)) c.args.throws c.args.call in
    let is : at c.args.name.0 c.args.doings.now ≡ Some c.in-Some.numbers.now = search rules in
    replaced c.args.name (option_map f (at c.args.name.1 c.in-Some.numbers.now)) c.args.doings.now (c.get_mut.follows.lender c.note_in.new.numbers)
    c.in-Some.numbers.now c.note_in.new.numbers is
    (c.get_mut.follows.holds c.note_in.new.numbers) c.get_mut.ensures.once c.note_in.ensures.noted q
    ∙ ap (λ found. if same_name c.args.name q then option_map f found else lookup (same_name q) (named c.args.doings.now))
    (sym (lookup-named c.args.name c.args.doings.now c.get_mut.ensures.once ∙ ap (λ found. at c.args.name.1 (table_in found)) is))
