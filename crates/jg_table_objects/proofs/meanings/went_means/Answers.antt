use Rattle.jg_table_objects.proofs.Told.{went_means}
use Rattle.jg_table_objects.proofs.meanings.went_means.Goals as goal

pub returns : goal.returns
returns c = went_means
