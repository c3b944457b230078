use Rattle.std.proofs.Common.{◌∙◌, ◌≤◌, sym, subst}
use Rattle.jg_policy.specs.LinkKept.{IsUpTo}
use Rattle.jg_policy.proofs.LinkSteps.{up_to_raised}
use Rattle.jg_policy.proofs.links.raise.Goals as goal

pub returns-clause-others : goal.returns-clause-others
returns-clause-others g c =
    up_to_raised c.args.greatest.now.entries c.insert.new.self.entries c.args.class c.greater-most.result c.in-Ok.ensures.updates.0
    (λ n below. c.greater-most.ensures.others n (subst (IsUpTo n) (sym (c.copied.ensures ∙ c.get.ensures.value)) below))
