use Rattle.jg_rows.specs.Columns.{columns}
use Rattle.jg_judge.specs.declared.question.Verdict.TheVariants.{Misfit, Broken, Passed}
use Rattle.jg_judge.specs.Written.{written_bounds}
use Rattle.jg_judge.proofs.Called.{asked}
use Rattle.jg_judge.proofs.call.broken_by.Goals as goal

pub returns-in-Misfit : goal.returns-in-Misfit
returns-in-Misfit g c = λ p stands suit.
    asked written_bounds c.args.view.now.setup.now p c.args.tid.0 c.args.env (columns c.args.row.now) c.args.arguments.now Misfit (c.in-Misfit.ensures p stands)
    suit

pub returns-in-Passed : goal.returns-in-Passed
returns-in-Passed g c = λ p stands suit.
    asked written_bounds c.args.view.now.setup.now p c.args.tid.0 c.args.env (columns c.args.row.now) c.args.arguments.now (Passed c.in-Passed.field-0)
    (c.in-Passed.ensures p stands) suit

pub returns-in-Broken : goal.returns-in-Broken
returns-in-Broken g c = λ p stands suit.
    asked written_bounds c.args.view.now.setup.now p c.args.tid.0 c.args.env (columns c.args.row.now) c.args.arguments.now (Broken c.in-Broken.broken)
    (c.in-Broken.ensures p stands) suit
