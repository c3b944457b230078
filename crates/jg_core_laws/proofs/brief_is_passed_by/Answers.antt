use Rattle.jg_core_laws.proofs.Brief.{brief_is_passed_by as law}
use Rattle.jg_core_laws.proofs.brief_is_passed_by.Goals as goal

pub returns : goal.returns
returns c = law
