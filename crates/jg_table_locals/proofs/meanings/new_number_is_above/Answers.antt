use Rattle.jg_table_locals.proofs.Callers.{above_law, live_below}
use Rattle.jg_table_locals.proofs.meanings.new_number_is_above.Goals as goal

pub returns : goal.returns
returns c = record { rows = above_law; live = live_below }
