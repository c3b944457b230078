use Rattle.std.proofs.Common.{refl, ◌∙◌, ap, sym, subst}
use Rattle.std.specs.Prelude.{if◌then◌else◌}
use Rattle.std.proofs.lemmas.Result.{on_ok_weaker}
use Rattle.jg_lists.specs.ByMaker.{same_name}
use Rattle.jg_core.specs.declared.fact.Fact.TheVariants.{Own}
use Rattle.jg_advice.specs.Monitors.{or_source}
use Rattle.jg_advice.specs.Standing.{AdviserState, Stands}
use Rattle.jg_advice.proofs.Standings.{fact_stands, found}
use Rattle.jg_advice.proofs.adviser.Adviser.own.Goals as goal

pub returns-clause-stands : goal.returns-clause-stands
returns-clause-stands g c = on_ok_weaker c.note_entry.result (λ noted h p stands sees.
    fact_stands _ h p c.args.line (Own c.args.tid c.args.object) (subst (λ (v : AdviserState). Stands v h) (sym c.self.view_is) stands) _
    (λ u. refl)
    (λ q. noted q ∙ ap (λ call. if same_name (c.args.tid.0, c.args.object.0) q then or_source (found c.self.inside.entered q) call
    else found c.self.inside.entered q) (c.cause-call.ensures p sees))
    (λ q. refl) (λ q. refl) (λ q once. once) (λ q. refl) refl refl) c.note_entry.ensures
