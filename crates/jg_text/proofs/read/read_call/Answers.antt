use Rattle.jg_text.proofs.Plain.{line_is_text}
use Rattle.jg_text.proofs.read.read_call.Goals as goal

pub returns-in-Ok-clause-text : goal.returns-in-Ok-clause-text
returns-in-Ok-clause-text c = line_is_text c.args.line.now c.in-Ok.spelt.0 c.in-Ok.spelt.1 c.in-Ok.spelt.2 c.in-Ok.ensures.spelt
