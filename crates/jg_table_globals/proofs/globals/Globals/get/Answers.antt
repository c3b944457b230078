use Rattle.std.proofs.Common.{refl, ap}
use Rattle.std.specs.Prelude.{map}
use Rattle.jg_table_globals.specs.Standing.{Stands}
use Rattle.jg_lists.specs.ByMaker.{named}
use Rattle.jg_table_globals.specs.Seen.{strong_seen, weak_seen}
use Rattle.jg_table_globals.specs.History.{strong_target}
use Rattle.jg_table_globals.proofs.Lookups.{reopened, get_strong_law, get_weak_law}
use Rattle.jg_table_globals.proofs.globals.Globals.get.Goals as goal

pub returns-in-Global : goal.returns-in-Global
returns-in-Global g c = λ e stands.
    let was : Stands (record { strong = map strong_seen (named c.self.inside.strong); weak = map weak_seen (named c.self.inside.weak) }) e =
    reopened _ _ e c.self.view_is stands in
    rw (c.in-To.is, c.in-Global.is, c.object_target.ensures, c.copied.ensures, c.find.ensures)
    (ap strong_target (get_strong_law _ e (named c.self.inside.strong) c.in-To.maker.0 c.in-To.n refl was))

pub returns-in-Weak : goal.returns-in-Weak
returns-in-Weak g c = λ e stands.
    let was : Stands (record { strong = map strong_seen (named c.self.inside.strong); weak = map weak_seen (named c.self.inside.weak) }) e =
    reopened _ _ e c.self.view_is stands in
    rw (c.in-To.is, c.in-Weak.is, c.copied-in-Weak.ensures, c.find-in-Weak.ensures)
    (get_weak_law _ e (named c.self.inside.weak) c.in-To.maker.0 c.in-To.n refl was)
