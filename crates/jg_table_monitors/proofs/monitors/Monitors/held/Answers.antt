use Rattle.std.specs.Prelude.{map}
use Rattle.jg_table_monitors.specs.Standing.{Stands}
use Rattle.jg_table_monitors.specs.Seen.{seen}
use Rattle.jg_table_monitors.proofs.Lookups.{reopened, held_law}
use Rattle.jg_table_monitors.proofs.monitors.Monitors.held.Goals as goal

pub returns : goal.returns
returns g c = λ e stands.
    let was : Stands (record { owned = map seen c.self.inside.owned }) e = reopened _ _ e c.self.view_is stands in
    rw (c.is_some.ensures, c.look.ensures) (held_law c.self.inside.owned e c.args.object.0 was)
