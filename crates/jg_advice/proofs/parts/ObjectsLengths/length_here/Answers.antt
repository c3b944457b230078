use Rattle.std.proofs.Common.{◌≡◌, ◌∙◌, ℕ, Some, subst, sym}
use Rattle.jg_advice.specs.Throwing.{length_here}
use Rattle.jg_advice.proofs.Sizes.{of_class}
use Rattle.jg_advice.proofs.parts.ObjectsLengths.length_here.Goals as goal

pub returns-in-None : goal.returns-in-None
returns-in-None g c = λ k e tells.
    subst (λ (n : ℕ). Some 0 ≡ length_here n e c.args.object.0) tells.classes
    (sym (of_class _ e c.args.object.0 (sym (c.length_there.ensures e tells.stands) ∙ c.in-None.is)
    (sym (c.is_there.ensures e tells.stands) ∙ c.if-is_there.true)))
