use Rattle.std.proofs.Common.{◌≡◌, ℕ, ◌==◌, List, ◌++◌, refl, ◌∙◌, ap, sym, subst}
use Rattle.std.specs.Prelude.{option_to_list}
use Rattle.std.proofs.lemmas.List.{append-nil}
use Rattle.jg_core.specs.declared.fact.Fact.TheVariants.{End}
use Rattle.jg_advice.specs.declared.advice.Advice.{Advice}
use Rattle.jg_advice.specs.Advised.{IsOnFact}
use Rattle.jg_advice.specs.Moments.{Told}
use Rattle.jg_advice.specs.Standing.{AdviserState, Stands}
use Rattle.jg_advice.proofs.Standings.{fact_advised, fact_stands}
use Rattle.jg_advice.proofs.Steps.{doing_gone}
use Rattle.jg_advice.proofs.adviser.Adviser.end.Goals as goal

pub returns-clause-advised : goal.returns-clause-advised
returns-clause-advised g c = λ h p stands sees.
    let buffers = c.in_ok-push_at_end.ensures in
    let monitors = c.in_ok-push_at_end-2.ensures in
    subst (λ (most : ℕ). (told : List Advice) × IsOnFact most (record { line = c.args.line; what = Told (End c.args.tid); parts = p }) h (End c.args.tid) told
    × (c.push_at_end-2.new.out.items ≡ c.args.out.now.items ++ told))
    (ap (λ (v : AdviserState). v.most) c.self.view_is)
    (fact_advised _ h p c.args.line (End c.args.tid) (subst (λ (v : AdviserState). Stands v h) (sym c.self.view_is) stands) buffers.0 monitors.0
    c.args.out.now.items c.push_at_end.new.out.items c.push_if.new.out.items c.push_at_end-2.new.out.items c.push_at_end-2.new.out.items
    buffers.1 monitors.1 buffers.2
    (c.in_ok-push_if.ensures ∙ ap (λ a. c.push_at_end.new.out.items ++ option_to_list a) (c.long.ensures p sees))
    monitors.2 (sym (append-nil c.push_at_end-2.new.out.items)))

pub returns-clause-stands : goal.returns-clause-stands
returns-clause-stands g c = λ h p stands sees.
    fact_stands _ h p c.args.line (End c.args.tid) (subst (λ (v : AdviserState). Stands v h) (sym c.self.view_is) stands) _
    (c.in_ok-note_region.ensures p sees) c.clear.ensures.found (λ q. refl) c.clear-2.ensures.found c.clear-2.ensures.once
    (λ q. doing_gone c.self.inside.doings c.clear-3.new.tables q (c.args.tid.0 == q.0) (c.clear-3.ensures.found q))
    refl refl
