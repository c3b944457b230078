use Rattle.jg_program.proofs.Beside.{advice_said}
use Rattle.jg_program.proofs.advising.advice_of.Goals as goal

pub returns-in-Some-clause-said : goal.returns-in-Some-clause-said
returns-in-Some-clause-said c =
    advice_said _ c.args.beside c.in-Some.beside c.args.begun c.into_text.result c.in-Some.is c.if-not-begun.false c.into_text.ensures
