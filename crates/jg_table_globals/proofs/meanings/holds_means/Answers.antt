use Rattle.jg_table_globals.proofs.Callers.{holds_law}
use Rattle.jg_table_globals.proofs.meanings.holds_means.Goals as goal

pub returns : goal.returns
returns c = holds_law
