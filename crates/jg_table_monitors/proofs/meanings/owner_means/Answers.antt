use Rattle.jg_table_monitors.proofs.Counting.{owner_has, owner_is}
use Rattle.jg_table_monitors.proofs.meanings.owner_means.Goals as goal

pub returns : goal.returns
returns c = λ rows e t o stands. (owner_has e t o, owner_is e t o stands.allowed)
