use Rattle.jg_core_laws.proofs.Brief.{brief_may_end as law}
use Rattle.jg_core_laws.proofs.brief_may_end.Goals as goal

pub returns : goal.returns
returns c = law
