use Rattle.std.proofs.Common.{◌∷◌}
use Rattle.jg_core.specs.declared.fact.Fact.TheVariants.{Meet}
use Rattle.jg_example_core.specs.declared.TheConstants.{INTS}
use Rattle.jg_example_core.proofs.tell_made.Goals as goal

pub returns-in-Ok : goal.returns-in-Ok
returns-in-Ok c = λ w h. c.in-Ok.ensures.ok.stands (Meet INTS c.args.length ∷ w) (c.in_ok-object.ensures.ok.stands w h)
