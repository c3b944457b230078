use Rattle.jg_table_heap.proofs.Decoding.{spelling_is_unique}
use Rattle.jg_table_heap.proofs.meanings.spelling_is_unique.Goals as goal

pub returns : goal.returns
returns c = spelling_is_unique
