use Rattle.jg_core_laws.proofs.Apart.{answered_apart as law}
use Rattle.jg_core_laws.proofs.answered_apart.Goals as goal

pub returns : goal.returns
returns c = law
