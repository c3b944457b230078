use Rattle.jg_laws.proofs.HandedHere.{classes_are_stated}
use Rattle.jg_laws.proofs.classes_are_stated.Goals as goal

pub returns : goal.returns
returns c = classes_are_stated
