use Rattle.jg_table_heap.proofs.Laws.{rows_mean}
use Rattle.jg_table_heap.proofs.meanings.rows_mean.Goals as goal

pub returns : goal.returns
returns c = rows_mean
