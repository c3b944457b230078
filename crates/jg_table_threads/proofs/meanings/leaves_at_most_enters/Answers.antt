use Rattle.jg_table_threads.proofs.Callers.{leaves_at_most_enters as law}
use Rattle.jg_table_threads.proofs.meanings.leaves_at_most_enters.Goals as goal

pub returns : goal.returns
returns c = law
