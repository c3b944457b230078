use Rattle.jg_core_laws.proofs.Later.{brief_is_outlived as law}
use Rattle.jg_core_laws.proofs.brief_is_outlived.Goals as goal

pub returns : goal.returns
returns c = law
