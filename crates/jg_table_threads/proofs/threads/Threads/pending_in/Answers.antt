use Rattle.std.proofs.Common.{◌≡◌, ℕ, Some, List, ◌∙◌, ap, is_some, sym, subst, IfSome}
use Rattle.jg_table_threads.specs.History.{acts_of, pending}
use Rattle.jg_table_threads.specs.Rows.{Row}
use Rattle.jg_table_threads.specs.Standing.{Stands}
use Rattle.jg_table_threads.proofs.Pending.{held_law, named_law}
use Rattle.jg_table_threads.proofs.threads.Threads.pending_in.Goals as goal

pub returns-in-None-clause-held : goal.returns-in-None-clause-held
returns-in-None-clause-held g c e stands =
    ap is_some c.in-None.ensures.first
    ∙ held_law c.self.inside.rows e c.args.object.0 c.in-None.ensures.once (subst (λ (rows : List (ℕ × Row)). Stands rows e) (sym c.self.view_is) stands)

pub returns-in-Some-clause-held : goal.returns-in-Some-clause-held
returns-in-Some-clause-held g c e stands =
    ap is_some c.in-Some.ensures.first
    ∙ held_law c.self.inside.rows e c.args.object.0 c.in-Some.ensures.once (subst (λ (rows : List (ℕ × Row)). Stands rows e) (sym c.self.view_is) stands)

pub returns-in-Some-clause-names : goal.returns-in-Some-clause-names
returns-in-Some-clause-names g c e stands =
    subst (λ found. IfSome found (λ t. pending (acts_of t e) ≡ Some c.args.object.0)) (sym c.in-Some.ensures.first)
    (named_law c.self.inside.rows e c.args.object.0 c.in-Some.ensures.once (subst (λ (rows : List (ℕ × Row)). Stands rows e) (sym c.self.view_is) stands))
