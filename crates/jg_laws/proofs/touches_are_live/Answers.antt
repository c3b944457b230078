use Rattle.jg_laws.proofs.Touching.{touches_are_live as law}
use Rattle.jg_laws.proofs.touches_are_live.Goals as goal

pub returns : goal.returns
returns c = law
