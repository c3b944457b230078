use Rattle.jg_table_threads.proofs.Means.{pending_means as law}
use Rattle.jg_table_threads.proofs.meanings.pending_means.Goals as goal

pub returns : goal.returns
returns c = law
