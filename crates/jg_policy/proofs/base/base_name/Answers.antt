use Rattle.jg_policy.specs.BaseClasses.{base_names}
use Rattle.jg_policy.proofs.base.base_name.Goals as goal

pub returns : goal.returns
unfolding base_names
returns c = c.name_at.ensures
