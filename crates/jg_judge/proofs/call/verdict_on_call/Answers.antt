use Rattle.std.proofs.Common.{rules, ◌≡◌, Some}
use Rattle.std.specs.Prelude.{slice_get}
use Rattle.jg_rows.specs.Columns.{columns}
use Rattle.jg_rows.specs.Table.{functions}
use Rattle.jg_judge.proofs.Called.{judged}
use Rattle.jg_judge.proofs.call.verdict_on_call.Goals as goal

pub returns : goal.returns
returns g c = λ p stands stated.
    let here : slice_get functions c.function_of.result ≡ Some (columns c.in-Some.row.now) = search rules in
    judged c.args.view.now.setup.now p c.args.tid.0 c.args.env c.args.call.now (columns c.in-Some.row.now) _ _ _ here c.function_of.ensures
    (c.list_arguments-count.ensures.listed p stands) (c.broken_by.ensures p stands) stated
