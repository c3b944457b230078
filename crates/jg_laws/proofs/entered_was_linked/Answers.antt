use Rattle.jg_laws.proofs.Natives.{entered_was_linked}
use Rattle.jg_laws.proofs.entered_was_linked.Goals as goal

pub returns : goal.returns
returns c = entered_was_linked
