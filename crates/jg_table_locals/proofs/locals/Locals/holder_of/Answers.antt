use Rattle.std.proofs.Common.{◌≡◌, ℕ, Some, ◌∙◌, ap, is_some, subst, sym, IfSome}
use Rattle.jg_table_locals.specs.History.{acts_of, live}
use Rattle.jg_table_locals.proofs.Found.{found_law, named_law}
use Rattle.jg_table_locals.proofs.Lookups.{reopened}
use Rattle.jg_table_locals.proofs.Threads.{table_seen}
use Rattle.jg_table_locals.proofs.locals.Locals.holder_of.Goals as goal

pub returns-in-None-clause-held : goal.returns-in-None-clause-held
returns-in-None-clause-held g c e stands =
    ap is_some c.in-None.ensures
    ∙ found_law c.self.inside.stacks e c.args.object.0 (reopened (table_seen c.self.inside.stacks) c.args.self.now e c.self.view_is stands)

pub returns-in-Some-clause-held : goal.returns-in-Some-clause-held
returns-in-Some-clause-held g c e stands =
    ap is_some c.in-Some.ensures
    ∙ found_law c.self.inside.stacks e c.args.object.0 (reopened (table_seen c.self.inside.stacks) c.args.self.now e c.self.view_is stands)

pub returns-in-Some-clause-names : goal.returns-in-Some-clause-names
returns-in-Some-clause-names g c e stands =
    subst (λ found. IfSome found (λ (name : ℕ × ℕ). live name.1 (acts_of name.0 e) ≡ Some c.args.object.0)) (sym c.in-Some.ensures)
    (named_law c.self.inside.stacks e c.args.object.0 (reopened (table_seen c.self.inside.stacks) c.args.self.now e c.self.view_is stands))
