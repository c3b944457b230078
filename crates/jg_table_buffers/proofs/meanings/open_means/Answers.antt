use Rattle.jg_table_buffers.proofs.Means.{open_since, since_open}
use Rattle.jg_table_buffers.proofs.meanings.open_means.Goals as goal

pub returns : goal.returns
returns c = λ e m n b. (open_since e m n b, since_open e m n b)
