use Rattle.jg_core_laws.proofs.Brief.{brief_is_unseen as law}
use Rattle.jg_core_laws.proofs.brief_is_unseen.Goals as goal

pub returns : goal.returns
returns c = law
