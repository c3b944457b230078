use Rattle.std.proofs.Common.{ℕ, List, ◌∙◌, ap, subst}
use Rattle.jg_lists.specs.ByThread.{at, IsOnce}
use Rattle.jg_lists.proofs.by_maker.ByMaker.get.Goals as goal

pub returns-clause-value : goal.returns-clause-value
returns-clause-value g c = c.get.ensures.value ∙ ap (at c.args.maker) c.self.view_is

pub returns-clause-once : goal.returns-clause-once
returns-clause-once g c = subst (λ (es : List (ℕ × List (ℕ × g.row.V.Denot))). IsOnce es) c.self.view_is c.get.ensures.once
