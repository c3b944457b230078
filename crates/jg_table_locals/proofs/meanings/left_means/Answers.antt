use Rattle.jg_table_locals.proofs.Lives.{left_means as law}
use Rattle.jg_table_locals.proofs.meanings.left_means.Goals as goal

pub returns : goal.returns
returns c = law
