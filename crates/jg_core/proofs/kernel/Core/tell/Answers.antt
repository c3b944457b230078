use Rattle.std.proofs.Common.{subst, sym}
use Rattle.jg_table_threads.specs.Rows.{CanCount}
use Rattle.jg_table_objects.specs.Rows.{Rows}
use Rattle.jg_rules.specs.Parts.{RowsBeside}
use Rattle.jg_core.specs.Kernel.{CoreState}
use Rattle.jg_core.specs.Tables.{rows_of}
use Rattle.jg_core.proofs.Due.{core_counts}
use Rattle.jg_core.proofs.kernel.Core.tell.Goals as goal

pub given_by-out-requires : goal.given_by-out-requires
given_by-out-requires g c = λ t.
    let state : CoreState = record { setup = c.self.inside.setup; rows = rows_of c.self.inside.tables; made = c.self.inside.made } in
    subst (λ (r : RowsBeside Rows). CanCount r.threads t) (sym c.view.ensures.rows)
    (core_counts state c.self.invariant.told t c.self.invariant.stands c.self.invariant.few)
