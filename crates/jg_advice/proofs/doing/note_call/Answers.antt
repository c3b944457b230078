use Rattle.std.proofs.Common.{rules, ◌≡◌, Some, None, ◌∙◌, ap, sym}
use Rattle.std.specs.Prelude.{if◌then◌else◌}
use Rattle.std.specs.Map.{lookup}
use Rattle.std.specs.Option.{option_map, unwrap_or}
use Rattle.jg_lists.specs.ByMaker.{same_name, named}
use Rattle.jg_rows.specs.Columns.{columns}
use Rattle.jg_advice.specs.Doing.{doing_after, idle}
use Rattle.jg_advice.proofs.Steps.{again, doing_put}
use Rattle.jg_advice.proofs.doing.note_call.Goals as goal

pub returns-in-Some-clause-noted : goal.returns-in-Some-clause-noted
returns-in-Some-clause-noted c = λ q.
    let old = c.args.doings.now in
    let name = c.args.name in
    let f = doing_after (Some (columns c.args.row.now)) c.args.throws c.args.call in
    let was : lookup (same_name name) (named old) ≡ Some c.in-Some.before = search rules in
    doing_put old c.note_known.new.doings name q f
    (c.note_known.ensures.noted q
    ∙ ap (λ found. if same_name name q then option_map f found else lookup (same_name q) (named old)) was
    ∙ ap (λ found. if same_name name q then Some (f (unwrap_or found idle)) else lookup (same_name q) (named old)) (sym was))

pub returns-in_ok-add-in-None-clause-noted : goal.returns-in_ok-add-in-None-clause-noted
returns-in_ok-add-in-None-clause-noted c = λ q.
    let old = c.args.doings.now in
    let name = c.args.name in
    let f = doing_after (Some (columns c.args.row.now)) c.args.throws c.args.call in
    let none : lookup (same_name name) (named old) ≡ None = search rules in
    doing_put old c.add.new.tables name q f
    (c.in_ok-add-in-None.ensures.found q
    ∙ ap (λ v. if same_name name q then Some v else lookup (same_name q) (named c.note_known.new.doings)) c.doing_after.ensures
    ∙ ap (λ found. if same_name name q then Some (f idle) else found) (c.note_known.ensures.noted q)
    ∙ again (same_name name q) _ _ _
    ∙ ap (λ found. if same_name name q then Some (f (unwrap_or found idle)) else lookup (same_name q) (named old)) (sym none))
