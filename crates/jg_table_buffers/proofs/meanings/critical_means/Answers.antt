use Rattle.jg_table_buffers.proofs.Means.{critical_there, critical_back}
use Rattle.jg_table_buffers.proofs.meanings.critical_means.Goals as goal

pub returns : goal.returns
returns c = λ e t. (critical_there e t, critical_back e t)
