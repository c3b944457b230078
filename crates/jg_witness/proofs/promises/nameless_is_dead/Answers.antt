use Rattle.jg_witness.proofs.Meant.{nameless_law}
use Rattle.jg_witness.proofs.promises.nameless_is_dead.Goals as goal

pub returns : goal.returns
returns c = nameless_law
