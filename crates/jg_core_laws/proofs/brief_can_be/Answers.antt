use Rattle.jg_core_laws.proofs.Brief.{brief_can_be as law}
use Rattle.jg_core_laws.proofs.brief_can_be.Goals as goal

pub returns : goal.returns
returns c = law
