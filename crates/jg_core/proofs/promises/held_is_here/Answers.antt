use Rattle.jg_core.proofs.Here.{held_is_here as law}
use Rattle.jg_core.proofs.promises.held_is_here.Goals as goal

pub returns : goal.returns
returns c = law
