use Rattle.jg_table_heap.proofs.Laws.{held_means}
use Rattle.jg_table_heap.proofs.meanings.held_means.Goals as goal

pub returns : goal.returns
returns c = held_means
