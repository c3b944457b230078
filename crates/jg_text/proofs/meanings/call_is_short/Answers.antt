use Rattle.jg_text.proofs.Laws.{short_call}
use Rattle.jg_text.proofs.meanings.call_is_short.Goals as goal

pub returns : goal.returns
returns c = short_call
