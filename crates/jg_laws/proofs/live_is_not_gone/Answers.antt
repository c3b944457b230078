use Rattle.jg_laws.proofs.HandedHere.{live_is_not_gone as law}
use Rattle.jg_laws.proofs.live_is_not_gone.Goals as goal

pub returns : goal.returns
returns c = law
