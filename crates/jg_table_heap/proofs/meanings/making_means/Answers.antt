use Rattle.jg_table_heap.proofs.Laws.{made_as, made_stays, classes_are}
use Rattle.jg_table_heap.proofs.meanings.making_means.Goals as goal

pub returns-clause-made : goal.returns-clause-made
returns-clause-made c = made_as

pub returns-clause-stays : goal.returns-clause-stays
returns-clause-stays c = made_stays

pub returns-clause-classes : goal.returns-clause-classes
returns-clause-classes c = classes_are
