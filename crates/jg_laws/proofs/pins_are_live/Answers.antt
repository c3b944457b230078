use Rattle.jg_laws.proofs.Pinning.{pins_are_live as law}
use Rattle.jg_laws.proofs.pins_are_live.Goals as goal

pub returns : goal.returns
returns c = law
