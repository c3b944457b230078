use Rattle.jg_table_monitors.proofs.Splits.{count_and_exits}
use Rattle.jg_table_monitors.proofs.meanings.count_means.Goals as goal

pub returns : goal.returns
returns c = count_and_exits
