use Rattle.jg_table_monitors.proofs.Lookups.{rows_law}
use Rattle.jg_table_monitors.proofs.meanings.rows_tell.Goals as goal

pub returns : goal.returns
returns c = rows_law
