use Rattle.jg_table_heap.proofs.Laws.{stays_gone}
use Rattle.jg_table_heap.proofs.meanings.gone_stays_gone.Goals as goal

pub returns : goal.returns
returns c = stays_gone
