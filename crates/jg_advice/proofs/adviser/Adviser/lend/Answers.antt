use Rattle.std.proofs.Common.{◌≡◌, ℕ, List, [], ◌++◌, refl, ◌∙◌, ap, sym, subst}
use Rattle.std.proofs.lemmas.Result.{on_ok_weaker}
use Rattle.std.specs.Prelude.{option_to_list}
use Rattle.std.proofs.lemmas.List.{append-nil}
use Rattle.jg_core.specs.declared.fact.Fact.TheVariants.{Lend}
use Rattle.jg_advice.specs.declared.advice.Advice.{Advice}
use Rattle.jg_advice.specs.Advised.{IsOnFact}
use Rattle.jg_advice.specs.Moments.{Told}
use Rattle.jg_advice.specs.Standing.{AdviserState, Stands}
use Rattle.jg_advice.proofs.Standings.{fact_advised, fact_stands}
use Rattle.jg_advice.proofs.adviser.Adviser.lend.Goals as goal

pub returns-clause-advised : goal.returns-clause-advised
returns-clause-advised g c = on_ok_weaker c.note_region.result (λ any h p f o via n stands sees.
    subst (λ (most : ℕ). (told : List Advice)
    × IsOnFact most (record { line = c.args.line; what = Told (Lend c.args.tid f o via n); parts = p }) h (Lend c.args.tid f o via n) told
    × (c.push_if.new.out.items ≡ c.args.out.now.items ++ told))
    (ap (λ (v : AdviserState). v.most) c.self.view_is)
    (fact_advised _ h p c.args.line (Lend c.args.tid f o via n) (subst (λ (v : AdviserState). Stands v h) (sym c.self.view_is) stands) [] []
    c.args.out.now.items c.args.out.now.items c.push_if.new.out.items c.push_if.new.out.items c.push_if.new.out.items
    refl refl (sym (append-nil c.args.out.now.items))
    (c.in_ok-push_if.ensures ∙ ap (λ a. c.args.out.now.items ++ option_to_list a) (c.long.ensures p sees))
    (sym (append-nil c.push_if.new.out.items)) (sym (append-nil c.push_if.new.out.items)))) c.note_region.ensures

pub returns-clause-stands : goal.returns-clause-stands
returns-clause-stands g c = on_ok_weaker c.note_region.result (λ noted h p f o via n stands sees.
    fact_stands _ h p c.args.line (Lend c.args.tid f o via n) (subst (λ (v : AdviserState). Stands v h) (sym c.self.view_is) stands) _
    (noted p sees) (λ q. refl) (λ q. refl) (λ q. refl) (λ q once. once) (λ q. refl) refl refl) c.note_region.ensures
