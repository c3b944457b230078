use Rattle.jg_table_monitors.proofs.Callers.{held_law}
use Rattle.jg_table_monitors.proofs.meanings.held_means.Goals as goal

pub returns : goal.returns
returns c = held_law
