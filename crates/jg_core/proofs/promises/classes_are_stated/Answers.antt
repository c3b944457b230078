use Rattle.jg_core.proofs.Classes.{classes_stated}
use Rattle.jg_core.proofs.promises.classes_are_stated.Goals as goal

pub returns : goal.returns
returns c = classes_stated
