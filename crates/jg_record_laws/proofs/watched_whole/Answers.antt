use Rattle.jg_record_laws.proofs.Whole.{watched_whole}
use Rattle.jg_record_laws.proofs.watched_whole.Goals as goal

pub returns : goal.returns
returns c = watched_whole
