use Rattle.std.proofs.Common.{refl, sym, subst}
use Rattle.jg_core.specs.declared.fact.Fact.TheVariants.{Free}
use Rattle.jg_advice.specs.Standing.{AdviserState, Stands}
use Rattle.jg_advice.proofs.Standings.{fact_stands}
use Rattle.jg_advice.proofs.adviser.Adviser.free.Goals as goal

pub returns-clause-stands : goal.returns-clause-stands
returns-clause-stands g c = λ h p line stands sees.
    fact_stands _ h p line (Free c.args.tid c.args.object) (subst (λ (v : AdviserState). Stands v h) (sym c.self.view_is) stands) _
    (λ u. refl) (c.note_exit.ensures p sees) (λ q. refl) (λ q. refl) (λ q once. once) (λ q. refl) refl refl
