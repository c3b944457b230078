use Rattle.std.proofs.Common.{refl}
use Rattle.std.specs.Prelude.{map}
use Rattle.jg_table_globals.specs.Standing.{Stands}
use Rattle.jg_lists.specs.ByMaker.{named}
use Rattle.jg_table_globals.specs.Seen.{strong_seen, weak_seen}
use Rattle.jg_table_globals.proofs.Lookups.{reopened, above_in}
use Rattle.jg_table_globals.proofs.Numbers.{strong_kept, weak_kept, still_found}
use Rattle.jg_table_globals.proofs.Steps.{delete_strong_law, delete_weak_law}
use Rattle.jg_table_globals.proofs.globals.Globals.delete.Goals as goal

-- the global reference goes
pub returns-in-Global-clause-stands : goal.returns-in-Global-clause-stands
returns-in-Global-clause-stands g c = λ e stands.
    let was : Stands (record { strong = map strong_seen (named c.self.inside.strong); weak = map weak_seen (named c.self.inside.weak) }) e =
    reopened _ _ e c.self.view_is stands in
    rw (c.in-To.is, c.in-Global.is)
    (delete_strong_law _ e c.in-To.maker.0 c.in-To.n (named c.self.inside.strong) (named c.end.new.tables) refl c.end.ensures.drops c.end.ensures.once was)

-- the weak reference goes
pub returns-in-Weak-clause-stands : goal.returns-in-Weak-clause-stands
returns-in-Weak-clause-stands g c = λ e stands.
    let was : Stands (record { strong = map strong_seen (named c.self.inside.strong); weak = map weak_seen (named c.self.inside.weak) }) e =
    reopened _ _ e c.self.view_is stands in
    let removed = c.end-in-Weak in
    rw (c.in-To.is, c.in-Weak.is)
    (delete_weak_law _ e c.in-To.maker.0 c.in-To.n (named c.self.inside.weak) (named removed.new.tables) refl removed.ensures.drops removed.ensures.once was)

-- no other number is there
pub returns-in-Global-clause-numbers : goal.returns-in-Global-clause-numbers
returns-in-Global-clause-numbers g c = λ k i above.
    strong_kept _ (named c.self.inside.strong) (named c.end.new.tables) k i refl (λ q. still_found _ _ _ (c.end.ensures.drops q))
    (above_in _ _ k i c.self.view_is above)

-- no other number is there
pub returns-in-Weak-clause-numbers : goal.returns-in-Weak-clause-numbers
returns-in-Weak-clause-numbers g c = λ k i above.
    let removed = c.end-in-Weak in
    weak_kept _ (named c.self.inside.weak) (named removed.new.tables) k i refl (λ q. still_found _ _ _ (removed.ensures.drops q))
    (above_in _ _ k i c.self.view_is above)
