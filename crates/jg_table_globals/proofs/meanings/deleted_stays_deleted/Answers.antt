use Rattle.jg_table_globals.proofs.Ended.{stays_ended}
use Rattle.jg_table_globals.proofs.meanings.deleted_stays_deleted.Goals as goal

pub returns : goal.returns
returns c = stays_ended
