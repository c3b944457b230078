use Rattle.std.proofs.Common.{refl}
use Rattle.std.specs.Prelude.{map}
use Rattle.jg_table_globals.specs.Standing.{Stands}
use Rattle.jg_lists.specs.ByMaker.{named}
use Rattle.jg_table_globals.specs.Seen.{strong_seen, weak_seen}
use Rattle.jg_table_globals.specs.declared.target.Target.TheVariants.{Object}
use Rattle.jg_table_globals.proofs.Lookups.{reopened, above_in}
use Rattle.jg_table_globals.proofs.Numbers.{weak_number}
use Rattle.jg_table_globals.proofs.Steps.{make_weak_law, weak_absent}
use Rattle.jg_table_globals.proofs.globals.Globals.make_weak.Goals as goal

-- a number above all of the maker's is new
pub add-requires : goal.add-requires
add-requires g c =
    weak_absent c.args.maker.0 c.args.n (named c.self.inside.weak) (above_in _ _ c.args.maker.0 c.args.n c.self.view_is c.requires).weak

-- the reference is added
pub returns-clause-ok : goal.returns-clause-ok
returns-clause-ok g c = λ e stands.
    let was : Stands (record { strong = map strong_seen (named c.self.inside.strong); weak = map weak_seen (named c.self.inside.weak) }) e =
    reopened _ _ e c.self.view_is stands in
    let above = above_in _ _ c.args.maker.0 c.args.n c.self.view_is c.requires in
    make_weak_law _ e c.args.maker.0 c.args.n c.args.object.0 (named c.self.inside.weak) (named c.add.new.tables) refl c.in_ok-add.ensures.ok above was

-- no other number is there
pub returns-clause-numbers : goal.returns-clause-numbers
returns-clause-numbers g c = λ k i above below.
    weak_number _ (c.args.maker.0, c.args.n) (Object c.args.object) (named c.self.inside.weak) (named c.add.new.tables) k i refl c.in_ok-add.ensures.ok
    (above_in _ _ k i c.self.view_is above) below
