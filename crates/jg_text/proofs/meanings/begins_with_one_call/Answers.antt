use Rattle.jg_text.proofs.Laws.{begins_once}
use Rattle.jg_text.proofs.meanings.begins_with_one_call.Goals as goal

pub returns : goal.returns
returns c = begins_once
