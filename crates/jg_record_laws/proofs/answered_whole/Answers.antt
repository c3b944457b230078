use Rattle.jg_record_laws.proofs.Whole.{answered_whole}
use Rattle.jg_record_laws.proofs.answered_whole.Goals as goal

pub returns : goal.returns
returns c = answered_whole
