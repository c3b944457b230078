use Rattle.jg_table_globals.proofs.Ended.{never_again}
use Rattle.jg_table_globals.proofs.meanings.cleared_stays_cleared.Goals as goal

pub returns : goal.returns
returns c = never_again
