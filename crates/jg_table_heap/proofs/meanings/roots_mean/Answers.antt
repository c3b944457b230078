use Rattle.jg_table_heap.proofs.Laws.{roots_mean}
use Rattle.jg_table_heap.proofs.meanings.roots_mean.Goals as goal

pub returns : goal.returns
returns c = roots_mean
