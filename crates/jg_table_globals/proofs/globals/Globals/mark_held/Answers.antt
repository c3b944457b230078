use Rattle.std.proofs.Common.{refl}
use Rattle.std.specs.Prelude.{map}
use Rattle.jg_table_globals.specs.Standing.{Stands}
use Rattle.jg_lists.specs.ByMaker.{named}
use Rattle.jg_table_globals.specs.Seen.{strong_seen, weak_seen}
use Rattle.jg_table_globals.proofs.Lookups.{reopened, holds_law}
use Rattle.jg_table_globals.proofs.globals.Globals.mark_held.Goals as goal

pub returns : goal.returns
returns g c = λ e stands o.
    let was : Stands (record { strong = map strong_seen (named c.self.inside.strong); weak = map weak_seen (named c.self.inside.weak) }) e =
    reopened _ _ e c.self.view_is stands in
    rw (c.mark_objects.ensures o, holds_law _ e (named c.self.inside.strong) o refl was) refl
