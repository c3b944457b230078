use Rattle.jg_table_locals.proofs.Callers.{pushed_law as law}
use Rattle.jg_table_locals.proofs.meanings.pushed_means.Goals as goal

pub returns : goal.returns
returns c = law
