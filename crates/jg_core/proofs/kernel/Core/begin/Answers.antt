use Rattle.jg_core.specs.Kernel.{CoreState}
use Rattle.jg_core.specs.Tables.{rows_of}
use Rattle.jg_core.proofs.Due.{core_counts}
use Rattle.jg_core.proofs.kernel.Core.begin.Goals as goal

pub env_once_attached-env-requires : goal.env_once_attached-env-requires
env_once_attached-env-requires g c =
    let state : CoreState = record { setup = c.self.inside.setup; rows = rows_of c.self.inside.tables; made = c.self.inside.made } in
    (core_counts state c.self.invariant.told c.args.tid.0 c.self.invariant.stands c.self.invariant.few).sessions
