use Rattle.jg_table_heap.proofs.Laws.{classes_stay}
use Rattle.jg_table_heap.proofs.meanings.class_objects_stay.Goals as goal

pub returns : goal.returns
returns c = classes_stay
