use Rattle.jg_table_threads.proofs.Means.{handed_out_never_fall as law}
use Rattle.jg_table_threads.proofs.meanings.handed_out_numbers_never_fall.Goals as goal

pub returns : goal.returns
returns c = law
