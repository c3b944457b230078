use Rattle.jg_table_threads.proofs.Means.{sessions_never_fall as law}
use Rattle.jg_table_threads.proofs.meanings.sessions_never_fall.Goals as goal

pub returns : goal.returns
returns c = law
