use Rattle.jg_table_buffers.proofs.Means.{written_means, unwritten_means}
use Rattle.jg_table_buffers.proofs.meanings.content_means.Goals as goal

pub returns-clause-written : goal.returns-clause-written
returns-clause-written c = written_means

pub returns-clause-unwritten : goal.returns-clause-unwritten
returns-clause-unwritten c = unwritten_means
