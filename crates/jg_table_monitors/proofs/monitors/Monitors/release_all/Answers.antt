use Rattle.std.specs.Prelude.{map}
use Rattle.jg_table_monitors.specs.Standing.{Stands}
use Rattle.jg_table_monitors.specs.Seen.{seen}
use Rattle.jg_table_monitors.proofs.Lookups.{reopened}
use Rattle.jg_table_monitors.proofs.Steps.{release_law}
use Rattle.jg_table_monitors.proofs.monitors.Monitors.release_all.Goals as goal

pub returns : goal.returns
returns g c = λ e stands.
    let was : Stands (record { owned = map seen c.self.inside.owned }) e = reopened _ _ e c.self.view_is stands in
    release_law c.self.inside.owned c.release.new.owned e c.args.tid.0 was c.release.ensures.once c.release.ensures.released
