use Rattle.jg_table_globals.proofs.Callers.{above_law}
use Rattle.jg_table_globals.proofs.meanings.new_number_is_above.Goals as goal

pub returns : goal.returns
returns c = above_law
