use Rattle.jg_core.proofs.Tied.{asked_as_calls}
use Rattle.jg_core.proofs.promises.questions_are_judged_as_calls.Goals as goal

pub returns : goal.returns
returns c = asked_as_calls
