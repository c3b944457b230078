use Rattle.jg_table_heap.proofs.Laws.{region_written, region_spares, region_keeps}
use Rattle.jg_table_heap.proofs.meanings.region_means.Goals as goal

pub returns-clause-written : goal.returns-clause-written
returns-clause-written c = region_written

pub returns-clause-spares : goal.returns-clause-spares
returns-clause-spares c = region_spares

pub returns-clause-keeps : goal.returns-clause-keeps
returns-clause-keeps c = region_keeps
