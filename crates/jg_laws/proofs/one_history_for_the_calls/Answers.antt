use Rattle.jg_laws.proofs.Replays.{one_history}
use Rattle.jg_laws.proofs.one_history_for_the_calls.Goals as goal

pub returns : goal.returns
returns c = one_history
