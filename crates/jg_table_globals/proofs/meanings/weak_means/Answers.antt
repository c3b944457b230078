use Rattle.std.specs.Prelude.{true, false}
use Rattle.jg_table_globals.proofs.Means.{live_since, cleared_since, weak_target_since}
use Rattle.jg_table_globals.proofs.meanings.weak_means.Goals as goal

pub returns-clause-live : goal.returns-clause-live
returns-clause-live c = λ e m n o. (live_since e m n o, weak_target_since e m n o false)

pub returns-clause-cleared : goal.returns-clause-cleared
returns-clause-cleared c = λ e m n. (cleared_since e m n, λ since. weak_target_since e m n since.0 true since.1)
