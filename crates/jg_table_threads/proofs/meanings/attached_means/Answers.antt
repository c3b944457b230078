use Rattle.jg_table_threads.proofs.Means.{attached_means as law}
use Rattle.jg_table_threads.proofs.meanings.attached_means.Goals as goal

pub returns : goal.returns
returns c = law
