use Rattle.jg_table_threads.proofs.Means.{session_means as law}
use Rattle.jg_table_threads.proofs.meanings.session_means.Goals as goal

pub returns : goal.returns
returns c = law
