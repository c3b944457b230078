use Rattle.jg_table_heap.proofs.Laws.{latest_write, first_value, value_passes}
use Rattle.jg_table_heap.proofs.meanings.value_means.Goals as goal

pub returns-clause-latest : goal.returns-clause-latest
returns-clause-latest c = latest_write

pub returns-clause-first : goal.returns-clause-first
returns-clause-first c = first_value

pub returns-clause-passes : goal.returns-clause-passes
returns-clause-passes c = value_passes
