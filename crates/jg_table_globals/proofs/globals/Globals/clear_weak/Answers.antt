use Rattle.std.proofs.Common.{refl, ◌+◌, [], ◌∷◌, length, ◌∙◌, ap, sym, arith}
use Rattle.std.specs.Prelude.{map}
use Rattle.jg_table_globals.specs.Standing.{Stands}
use Rattle.jg_lists.specs.ByMaker.{named}
use Rattle.jg_table_globals.specs.Seen.{strong_seen, weak_seen}
use Rattle.std.proofs.lemmas.Bool.Decides.{nat_tests}
use Rattle.std.proofs.Math.Bool.{or-false}
use Rattle.jg_table_globals.proofs.Counting.{length-changed}
use Rattle.jg_table_globals.proofs.Lookups.{reopened, above_in}
use Rattle.jg_table_globals.proofs.Numbers.{cleared_kept}
use Rattle.jg_table_globals.proofs.Steps.{clear_law}
use Rattle.jg_table_globals.proofs.globals.Globals.clear_weak.Goals as goal

-- the one object is cleared
pub returns-clause-stands : goal.returns-clause-stands
returns-clause-stands g c = λ e stands.
    let was : Stands (record { strong = map strong_seen (named c.self.inside.strong); weak = map weak_seen (named c.self.inside.weak) }) e =
    reopened _ _ e c.self.view_is stands in
    clear_law _ _ (named c.self.inside.weak) (named c.clear_rows.new.rows) e (c.args.object.0 ∷ []) refl c.clear_rows.ensures
    (λ m n o answer named answered. grind (arith, nat_tests, or-false, answered.1)) was

-- as many are in being
pub invariant_of-self : goal.invariant_of-self
invariant_of-self g c = c.self.invariant
    ∙ ap (λ n. length (named c.self.inside.strong) + n) (sym (length-changed _ (named c.self.inside.weak) (named c.clear_rows.new.rows) c.clear_rows.ensures))

-- no other number is there
pub returns-clause-numbers : goal.returns-clause-numbers
returns-clause-numbers g c = λ k i above.
    cleared_kept _ _ (named c.self.inside.weak) (named c.clear_rows.new.rows) k i refl c.clear_rows.ensures (above_in _ _ k i c.self.view_is above)
