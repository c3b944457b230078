use Rattle.jg_table_monitors.proofs.Splits.{splits}
use Rattle.jg_table_monitors.proofs.meanings.since_means.Goals as goal

pub returns : goal.returns
returns c = splits
