use Rattle.jg_laws.proofs.Fresh.{references_counted}
use Rattle.jg_laws.proofs.references_are_counted.Goals as goal

pub returns : goal.returns
returns c = references_counted
