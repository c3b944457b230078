use Rattle.jg_table_locals.proofs.Held.{held_means as law}
use Rattle.jg_table_locals.proofs.meanings.held_means.Goals as goal

pub returns : goal.returns
returns c = law
