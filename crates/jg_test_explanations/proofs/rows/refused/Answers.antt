use Rattle.std.proofs.Common.{refl}
use Rattle.jg_policy.specs.BaseClasses.{base_names}
use Rattle.jg_test_explanations.proofs.rows.refused.Goals as goal

pub returns : goal.returns
unfolding base_names
returns c = refl
