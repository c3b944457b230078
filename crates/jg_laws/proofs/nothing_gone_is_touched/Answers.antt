use Rattle.jg_laws.proofs.Touching.{nothing_gone_is_touched as law}
use Rattle.jg_laws.proofs.nothing_gone_is_touched.Goals as goal

pub returns : goal.returns
returns c = law
