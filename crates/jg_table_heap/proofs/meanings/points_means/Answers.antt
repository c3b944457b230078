use Rattle.jg_table_heap.proofs.Laws.{points_mean}
use Rattle.jg_table_heap.proofs.meanings.points_means.Goals as goal

pub returns : goal.returns
returns c = points_mean
