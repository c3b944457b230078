use Rattle.jg_advice.proofs.Within as within
use Rattle.jg_advice.proofs.meanings.within_throws_nothing.Goals as goal

pub returns : goal.returns
returns c = within.within_throws_nothing
