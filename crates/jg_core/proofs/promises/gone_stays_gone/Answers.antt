use Rattle.jg_core.proofs.Here.{gone_stays_gone as law}
use Rattle.jg_core.proofs.promises.gone_stays_gone.Goals as goal

pub returns : goal.returns
returns c = law
