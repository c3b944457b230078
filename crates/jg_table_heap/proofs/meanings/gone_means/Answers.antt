use Rattle.jg_table_heap.proofs.Laws.{gone_means}
use Rattle.jg_table_heap.proofs.meanings.gone_means.Goals as goal

pub returns : goal.returns
returns c = gone_means
