use Rattle.jg_policy.proofs.LinkLaws.{is_warned, warned_from}
use Rattle.jg_policy.proofs.meanings.warned_means.Goals as goal

pub returns : goal.returns
returns c e home = (is_warned e home, warned_from e home)
