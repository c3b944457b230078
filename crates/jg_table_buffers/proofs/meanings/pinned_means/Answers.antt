use Rattle.jg_table_buffers.proofs.Means.{pinned_there, pinned_back, object_there, object_back}
use Rattle.jg_table_buffers.proofs.meanings.pinned_means.Goals as goal

pub returns-clause-reference : goal.returns-clause-reference
returns-clause-reference c = λ e r. (pinned_there e r, pinned_back e r)

pub returns-clause-object : goal.returns-clause-object
returns-clause-object c = λ e o. (object_there e o, object_back e o)
