use Rattle.std.proofs.Common.{refl}
use Rattle.std.specs.Prelude.{map}
use Rattle.jg_table_monitors.specs.Standing.{Stands}
use Rattle.jg_table_monitors.specs.Seen.{seen}
use Rattle.jg_table_monitors.proofs.Lookups.{reopened, any_key_law}
use Rattle.jg_table_monitors.proofs.monitors.Monitors.mark_held.Goals as goal

pub returns : goal.returns
returns g c = λ e stands o.
    let was : Stands (record { owned = map seen c.self.inside.owned }) e = reopened _ _ e c.self.view_is stands in
    rw (c.mark_keys.ensures o, any_key_law c.self.inside.owned e o was) refl
