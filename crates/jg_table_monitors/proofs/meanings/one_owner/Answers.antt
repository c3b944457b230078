use Rattle.jg_table_monitors.proofs.Counting.{one_owner}
use Rattle.jg_table_monitors.proofs.meanings.one_owner.Goals as goal

pub returns : goal.returns
returns c = λ rows e t u o stands. one_owner e t u o stands.allowed
