use Rattle.jg_core_laws.proofs.Brief.{brief_leaves_all as law}
use Rattle.jg_core_laws.proofs.brief_leaves_all.Goals as goal

pub returns : goal.returns
returns c = law
