use Rattle.std.proofs.Common.{ℕ, List, ◌∙◌, ap, sym, subst}
use Rattle.std.specs.Prelude.{IsPermutation}
use Rattle.std.specs.Map.{lookup}
use Rattle.jg_lists.specs.ByMaker.{same_name, named, IsThereOnce}
use Rattle.jg_lists.proofs.Closed.{closed_same, closed_found, closed_there}
use Rattle.jg_lists.proofs.by_maker.ByMaker.close.Goals as goal

pub returns-clause-same : goal.returns-clause-same
returns-clause-same g c =
    subst (λ (es : List (ℕ × List (ℕ × g.row.V.Denot))). IsPermutation (named es) (named c.remove.new.self)) c.self.view_is
    (closed_same c.args.maker c.self.inside.tables c.remove.new.self
    (c.is_empty_at.ensures.empty c.if-not-is_empty_at.false) c.remove.ensures.removed c.in-Some.numbers c.in-Some.ensures.was c.in-Some.ensures.taken)

pub returns-clause-found : goal.returns-clause-found
returns-clause-found g c q =
    closed_found c.args.maker c.self.inside.tables c.remove.new.self
    (c.is_empty_at.ensures.empty c.if-not-is_empty_at.false) c.remove.ensures.removed c.is_empty_at.ensures.once c.remove.ensures.once q
    ∙ ap (λ (es : List (ℕ × List (ℕ × g.row.V.Denot))). lookup (same_name q) (named es)) c.self.view_is

pub returns-clause-there : goal.returns-clause-there
returns-clause-there g c q was =
    closed_there c.args.maker c.self.inside.tables c.remove.new.self
    (c.is_empty_at.ensures.empty c.if-not-is_empty_at.false) c.remove.ensures.removed c.is_empty_at.ensures.once c.remove.ensures.once q
    (subst (λ (es : List (ℕ × List (ℕ × g.row.V.Denot))). IsThereOnce q (named es)) (sym c.self.view_is) was)
