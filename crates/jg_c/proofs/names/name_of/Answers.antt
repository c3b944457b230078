use Rattle.jg_c.proofs.Naming.{name_is_text}
use Rattle.jg_c.proofs.names.name_of.Goals as goal

pub returns-in-Err-clause-not_a_name : goal.returns-in-Err-clause-not_a_name
returns-in-Err-clause-not_a_name c = λ is name. c.in-Err.ensures.cases.0 (name_is_text _ name)
