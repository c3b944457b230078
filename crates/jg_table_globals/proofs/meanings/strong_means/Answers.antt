use Rattle.jg_table_globals.proofs.Means.{strong_since, strong_target_since}
use Rattle.jg_table_globals.proofs.meanings.strong_means.Goals as goal

pub returns : goal.returns
returns c = λ e m n o. (strong_since e m n o, strong_target_since e m n o)
