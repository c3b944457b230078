use Rattle.std.proofs.Common.{◌==◌, refl, sym, subst}
use Rattle.jg_core.specs.declared.fact.Fact.TheVariants.{Begin}
use Rattle.jg_advice.specs.Standing.{AdviserState, Stands}
use Rattle.jg_advice.proofs.Standings.{fact_stands}
use Rattle.jg_advice.proofs.Steps.{doing_gone}
use Rattle.jg_advice.proofs.adviser.Adviser.begin.Goals as goal

pub returns-clause-stands : goal.returns-clause-stands
returns-clause-stands c = λ h p line stands.
    fact_stands _ h p line (Begin c.args.tid) (subst (λ (v : AdviserState). Stands v h) (sym c.self.view_is) stands) _
    (λ u. refl) (λ q. refl) (λ q. refl) (λ q. refl) (λ q once. once)
    (λ q. doing_gone c.self.inside.doings c.clear.new.tables q (c.args.tid.0 == q.0) (c.clear.ensures.found q))
    refl refl
