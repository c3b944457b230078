use Rattle.std.proofs.Common.{None, refl, ◌∙◌, ap, sym, subst}
use Rattle.std.specs.Prelude.{if◌then◌else◌}
use Rattle.std.specs.Map.{lookup}
use Rattle.jg_lists.specs.ByMaker.{named, same_name}
use Rattle.jg_core.specs.declared.fact.Fact.TheVariants.{Enter}
use Rattle.jg_advice.specs.Moments.{depth}
use Rattle.jg_advice.specs.Standing.{AdviserState, Stands}
use Rattle.jg_advice.proofs.Standings.{fact_stands}
use Rattle.jg_advice.proofs.Steps.{doing_gone}
use Rattle.jg_advice.proofs.adviser.Adviser.enter.Goals as goal

pub returns-clause-stands : goal.returns-clause-stands
returns-clause-stands g c = λ h p line stands sees.
    fact_stands _ h p line (Enter c.args.tid) (subst (λ (v : AdviserState). Stands v h) (sym c.self.view_is) stands) _
    (λ u. refl) (λ q. refl) (λ q. refl) (λ q. refl) (λ q once. once)
    (λ q. doing_gone c.self.inside.doings c.remove-ended.new.tables q (same_name (c.args.tid.0, depth p c.args.tid.0) q)
    (c.remove-ended.ensures.drops q
    ∙ ap (λ d. if same_name (c.args.tid.0, d) q then None else lookup (same_name q) (named c.self.inside.doings))
    (c.depth.ensures.history p.locals sees.locals)))
    refl refl
