use Rattle.jg_record_laws.proofs.Faultless.{faultless}
use Rattle.jg_record_laws.proofs.spelt_has_no_fault.Goals as goal

pub returns : goal.returns
returns c = faultless
