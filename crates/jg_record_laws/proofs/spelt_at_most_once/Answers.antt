use Rattle.jg_record_laws.proofs.Once.{spelt_once}
use Rattle.jg_record_laws.proofs.spelt_at_most_once.Goals as goal

pub returns : goal.returns
returns c = spelt_once
