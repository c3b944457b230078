use Rattle.jg_table_objects.proofs.Told.{told_means}
use Rattle.jg_table_objects.proofs.meanings.told_means.Goals as goal

pub returns : goal.returns
returns c = told_means
