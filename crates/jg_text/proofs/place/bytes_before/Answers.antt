use Rattle.jg_text.proofs.Columns.{before_cut, before_end}
use Rattle.jg_text.proofs.place.bytes_before.Goals as goal

pub returns-in-Some-clause-counted : goal.returns-in-Some-clause-counted
returns-in-Some-clause-counted c = before_cut c.args.line.now c.in-Some.front.now _ c.args.before c.in-Some.ensures.some.0 c.in-Some.ensures.some.1

pub returns-in-None-clause-counted : goal.returns-in-None-clause-counted
returns-in-None-clause-counted c = before_end c.args.line.now c.args.before c.in-None.ensures.none
