use Rattle.jg_table_heap.proofs.Laws.{going_means}
use Rattle.jg_table_heap.proofs.meanings.going_means.Goals as goal

pub returns : goal.returns
returns c = going_means
