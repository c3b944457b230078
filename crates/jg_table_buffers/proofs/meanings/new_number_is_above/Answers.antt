use Rattle.jg_table_buffers.proofs.Means.{above_all}
use Rattle.jg_table_buffers.proofs.meanings.new_number_is_above.Goals as goal

pub returns : goal.returns
returns c = above_all
