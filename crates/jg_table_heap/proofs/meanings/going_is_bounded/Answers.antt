use Rattle.jg_table_heap.proofs.Laws.{going_bounded}
use Rattle.jg_table_heap.proofs.meanings.going_is_bounded.Goals as goal

pub returns : goal.returns
returns c = going_bounded
