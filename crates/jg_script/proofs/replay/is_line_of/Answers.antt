use Rattle.jg_script.proofs.Known.{tells_line}
use Rattle.jg_script.proofs.replay.is_line_of.Goals as goal

pub returns-in-Some-eq10-default : goal.returns-in-Some-eq10-default
returns-in-Some-eq10-default c =
    let some = c.in-Some-eq10-default in
    tells_line c.args.entry.now some.front.now c.args.text.now some.field-0-0.now c.eq.result some.ensures.cases.0 some.field-0-0-test c.eq.ensures
