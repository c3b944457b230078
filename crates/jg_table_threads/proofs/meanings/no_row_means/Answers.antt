use Rattle.jg_table_threads.proofs.Callers.{no_row_law as law}
use Rattle.jg_table_threads.proofs.meanings.no_row_means.Goals as goal

pub returns : goal.returns
returns c = law
