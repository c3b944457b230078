use Rattle.jg_laws.proofs.Kept.{agree}
use Rattle.jg_laws.proofs.depths_agree.Goals as goal

pub returns : goal.returns
returns c = agree
