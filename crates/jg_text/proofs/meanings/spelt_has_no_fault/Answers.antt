use Rattle.jg_text.proofs.Laws.{spelt_faultless}
use Rattle.jg_text.proofs.meanings.spelt_has_no_fault.Goals as goal

pub returns : goal.returns
returns c = spelt_faultless
