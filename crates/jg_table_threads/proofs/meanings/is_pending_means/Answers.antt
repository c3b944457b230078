use Rattle.jg_table_threads.proofs.Means.{is_pending_means as law}
use Rattle.jg_table_threads.proofs.meanings.is_pending_means.Goals as goal

pub returns : goal.returns
returns c = law
