use Rattle.jg_text.proofs.Laws.{spelt_once}
use Rattle.jg_text.proofs.meanings.spelt_at_most_once.Goals as goal

pub returns : goal.returns
returns c = spelt_once
