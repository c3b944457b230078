use Rattle.std.proofs.Common.{◌≡◌, Some, sym, ◌∙◌, ap}
use Rattle.std.specs.Prelude.{map}
use Rattle.jg_lists.specs.ByThread.{at}
use Rattle.std.proofs.lemmas.Bool.{eq-eqb}
use Rattle.jg_table_monitors.specs.Keys.{is_owned_by}
use Rattle.jg_table_monitors.specs.Rows.{owner_in}
use Rattle.jg_table_monitors.specs.Standing.{Stands}
use Rattle.jg_table_monitors.specs.Seen.{seen}
use Rattle.jg_table_monitors.proofs.Lookups.{reopened, row_law, owned_law}
use Rattle.jg_table_monitors.proofs.Steps.{row_at, exit_law}
use Rattle.jg_table_monitors.proofs.monitors.Monitors.exit.Goals as goal

-- the owner's count is lowered
pub returns : goal.returns
returns g c = λ e stands.
    let was : Stands (record { owned = map seen c.self.inside.owned }) e = reopened _ _ e c.self.view_is stands in
    let entries = c.self.inside.owned in
    let mine : owner_in (row_at c.args.object.0 (at c.args.object.0 entries)) ≡ Some c.args.tid.0 =
    ap owner_in (sym (row_law entries _ c.args.object.0 c.self.view_is)) ∙ c.requires in
    let found = owned_law c.args.tid.0 c.args.object.0 (at c.args.object.0 entries) mine in
    exit_law entries c.lower.new.owned e c.args.tid.0 c.args.object.0 found.0 was found.1.0 found.1.1 c.lower.ensures.once c.lower.ensures.lowered

-- it owns the monitor
pub lower-requires-clause-mine : goal.lower-requires-clause-mine
lower-requires-clause-mine g c =
    let entries = c.self.inside.owned in
    let mine : owner_in (row_at c.args.object.0 (at c.args.object.0 entries)) ≡ Some c.args.tid.0 =
    ap owner_in (sym (row_law entries _ c.args.object.0 c.self.view_is)) ∙ c.requires in
    let found = owned_law c.args.tid.0 c.args.object.0 (at c.args.object.0 entries) mine in
    ap (is_owned_by c.args.tid.0) found.1.0 ∙ eq-eqb _ _ found.1.1
