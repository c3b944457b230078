use Rattle.jg_core.specs.Kernel.{CoreState}
use Rattle.jg_core.specs.Tables.{rows_of}
use Rattle.jg_core.proofs.Due.{core_counts}
use Rattle.jg_core.proofs.kernel.Core.pop.Goals as goal

pub next_ref-n-requires : goal.next_ref-n-requires
next_ref-n-requires g c =
    let state : CoreState = record { setup = c.self.inside.setup; rows = rows_of c.self.inside.tables; made = c.self.inside.made } in
    (core_counts state c.self.invariant.told c.args.tid.0 c.self.invariant.stands c.self.invariant.few).refs
