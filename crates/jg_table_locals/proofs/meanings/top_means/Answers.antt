use Rattle.jg_table_locals.proofs.Callers.{top_is as law}
use Rattle.jg_table_locals.proofs.meanings.top_means.Goals as goal

pub returns : goal.returns
returns c = law
