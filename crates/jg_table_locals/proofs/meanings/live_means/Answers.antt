use Rattle.jg_table_locals.proofs.Lives.{live_means as law}
use Rattle.jg_table_locals.proofs.meanings.live_means.Goals as goal

pub returns : goal.returns
returns c = law
