use Rattle.std.proofs.Common.{arith}
use Rattle.jg_text.proofs.Plain.{always}
use Rattle.jg_text.proofs.word.push_field.Goals as goal

pub returns-clause-fits : goal.returns-clause-fits
returns-clause-fits c = always c.push_lettered.result (omega arith, omega arith)
