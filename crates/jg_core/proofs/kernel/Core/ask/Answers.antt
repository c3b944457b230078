use Rattle.std.proofs.Common.{rules, ◌≡◌, ◌∙◌, Some, slice_get, ap}
use Rattle.jg_rules.specs.View.{rows_in}
use Rattle.jg_rows.specs.Columns.{columns}
use Rattle.jg_rows.specs.Table.{functions}
use Rattle.jg_judge.specs.declared.question.Verdict.TheVariants.{Broken}
use Rattle.jg_core.specs.declared.asking.Answer.TheVariants.{Passed, Denied}
use Rattle.jg_core.specs.Asking.{asked}
use Rattle.jg_core.specs.Facts.{parts_of}
use Rattle.jg_core.proofs.Answered.{answered, passed_names, viewed}
use Rattle.jg_core.proofs.kernel.Core.ask.Goals as goal

pub returns-in-Misfit : goal.returns-in-Misfit
returns-in-Misfit g c = λ w stands.
    let setup_is : c.view-view.result.setup.now ≡ c.args.self.now.setup = search rules in
    let rows_is : rows_in c.view-view.result ≡ c.args.self.now.rows = search rules in
    let row_is : slice_get functions c.args.function ≡ Some (columns c.in-Some.row.now) = search rules in
    let told = viewed c.args.self.now c.view-view.result w setup_is rows_is stands in
    answered c.args.bounds c.view-view.result.setup.now (parts_of w) c.args.tid c.args.env c.args.function (columns c.in-Some.row.now) c.args.arguments.now _
    row_is
    (c.in-Misfit.ensures (parts_of w) told) ∙ ap (λ s. asked c.args.bounds s (parts_of w) c.args.tid c.args.env c.args.function c.args.arguments.now) setup_is

pub returns-in-Broken : goal.returns-in-Broken
returns-in-Broken g c = λ w stands.
    let setup_is : c.view-view.result.setup.now ≡ c.args.self.now.setup = search rules in
    let rows_is : rows_in c.view-view.result ≡ c.args.self.now.rows = search rules in
    let row_is : slice_get functions c.args.function ≡ Some (columns c.in-Some.row.now) = search rules in
    let told = viewed c.args.self.now c.view-view.result w setup_is rows_is stands in
    ap (Denied c.in-Broken.field-0.rule c.in-Broken.field-0.operand) (c.denied_ticket-ticket.ensures (parts_of w) told)
    ∙ (answered c.args.bounds c.view-view.result.setup.now (parts_of w) c.args.tid c.args.env c.args.function (columns c.in-Some.row.now) c.args.arguments.now
    (Broken c.in-Broken.field-0) row_is
    (c.in-Broken.ensures (parts_of w) told) ∙ ap (λ s. asked c.args.bounds s (parts_of w) c.args.tid c.args.env c.args.function c.args.arguments.now) setup_is)

pub returns-in-Passed : goal.returns-in-Passed
returns-in-Passed g c = λ w stands.
    let setup_is : c.view-view.result.setup.now ≡ c.args.self.now.setup = search rules in
    let rows_is : rows_in c.view-view.result ≡ c.args.self.now.rows = search rules in
    let row_is : slice_get functions c.args.function ≡ Some (columns c.in-Some.row.now) = search rules in
    let told = viewed c.args.self.now c.view-view.result w setup_is rows_is stands in
    let named_is =
    passed_names c.args.bounds c.view-view.result.setup.now (parts_of w) c.args.tid.0 c.args.env (columns c.in-Some.row.now) c.args.arguments.now
    c.in-Passed.named
    (c.in-Passed.ensures (parts_of w) told) in
    ap (λ e. Passed (record { tid = c.args.tid; expected = e })) (c.expected_of.ensures (parts_of w) told named_is)
    ∙ (answered c.args.bounds c.view-view.result.setup.now (parts_of w) c.args.tid c.args.env c.args.function (columns c.in-Some.row.now) c.args.arguments.now _
    row_is
    (c.in-Passed.ensures (parts_of w) told) ∙ ap (λ s. asked c.args.bounds s (parts_of w) c.args.tid c.args.env c.args.function c.args.arguments.now) setup_is)
