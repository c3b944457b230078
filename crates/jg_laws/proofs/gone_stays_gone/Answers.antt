use Rattle.jg_laws.proofs.HandedHere.{stays_gone as law}
use Rattle.jg_laws.proofs.gone_stays_gone.Goals as goal

pub returns : goal.returns
returns c = law
