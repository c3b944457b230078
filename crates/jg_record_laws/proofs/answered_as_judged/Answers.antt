use Rattle.jg_record_laws.proofs.Verdicts.{answered_as_judged}
use Rattle.jg_record_laws.proofs.answered_as_judged.Goals as goal

pub returns : goal.returns
returns c = answered_as_judged
