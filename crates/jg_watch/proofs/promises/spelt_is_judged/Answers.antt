use Rattle.jg_watch.proofs.Suiting.{is_judged}
use Rattle.jg_watch.proofs.promises.spelt_is_judged.Goals as goal

pub returns : goal.returns
returns c = is_judged
