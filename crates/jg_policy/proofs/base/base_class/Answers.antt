use Rattle.jg_policy.specs.BaseClasses.{base_names}
use Rattle.jg_policy.proofs.base.base_class.Goals as goal

pub returns-clause-number : goal.returns-clause-number
unfolding base_names
returns-clause-number c = c.place_of.ensures
