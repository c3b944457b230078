use Rattle.jg_judge.proofs.Sorts as sorts
use Rattle.jg_judge.proofs.promises.calls_suit.Goals as goal

pub returns : goal.returns
returns c = sorts.calls_suit
