use Rattle.std.proofs.Common.{rules, ◌≡◌, ◌∙◌, [], ◌∷◌, ap, sym}
use Rattle.std.specs.List.{find}
use Rattle.jg_breaches.specs.Breaches.{breaks}
use Rattle.jg_breaches.specs.Referred.{also, referred}
use Rattle.jg_breaches.proofs.Meant.{one_found}
use Rattle.jg_breaches.proofs.operands.first_of.Goals as goal

pub returns-then-is_some : goal.returns-then-is_some
returns-then-is_some g c = λ p stands.
    let test = breaks c.args.view.now.setup.now p c.args.tid.0 c.args.rule in
    let wanted_is : c.loop-argument.wanted.now ≡ c.in-Some-split_first.take.now ∷ c.in-Some-split_first.more.now = search rules in
    let rest_is : c.loop-argument.rest.now ≡ c.in-Some.argument.now ∷ c.in-Some.later.now = search rules in
    one_found test _ c.if_it_breaks-found.result (referred c.in-Some-split_first.more.now c.in-Some.later.now)
    (c.if_it_breaks-found.ensures p stands ∙ ap (λ operand. find test (also operand [])) c.operand_in.ensures) (sym c.is_some.ensures ∙ c.if-is_some.true)
    ∙ (ap (λ wanted. find test (referred wanted (c.in-Some.argument.now ∷ c.in-Some.later.now))) (sym wanted_is)
    ∙ (ap (λ rest. find test (referred c.loop-argument.wanted.now rest)) (sym rest_is) ∙ c.loop-argument.invariant p stands))
