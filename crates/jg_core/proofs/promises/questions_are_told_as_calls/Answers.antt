use Rattle.jg_core.proofs.Tied.{told_as_calls}
use Rattle.jg_core.proofs.promises.questions_are_told_as_calls.Goals as goal

pub returns : goal.returns
returns c = told_as_calls
