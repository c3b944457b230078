use Rattle.jg_journal_record.proofs.Telling.{records_tell_facts}
use Rattle.jg_journal_record.proofs.promises.records_tell_facts.Goals as goal

pub returns : goal.returns
returns c = records_tell_facts
