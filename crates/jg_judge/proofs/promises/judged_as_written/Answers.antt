use Rattle.jg_judge.proofs.Agreed as agreed
use Rattle.jg_judge.proofs.promises.judged_as_written.Goals as goal

pub returns : goal.returns
returns c = agreed.judged_as_written
