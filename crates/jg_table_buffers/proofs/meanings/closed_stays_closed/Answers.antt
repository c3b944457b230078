use Rattle.jg_table_buffers.proofs.Means.{stays_closed}
use Rattle.jg_table_buffers.proofs.meanings.closed_stays_closed.Goals as goal

pub returns : goal.returns
returns c = stays_closed
