use Rattle.jg_table_monitors.proofs.Splits.{bounded}
use Rattle.jg_table_monitors.proofs.meanings.count_is_bounded.Goals as goal

pub returns : goal.returns
returns c = bounded
