use Rattle.jg_table_locals.proofs.Lives.{popped_means as law}
use Rattle.jg_table_locals.proofs.meanings.popped_means.Goals as goal

pub returns : goal.returns
returns c = law
