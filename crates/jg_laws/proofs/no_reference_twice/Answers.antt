use Rattle.jg_laws.proofs.Fresh.{no_reference_twice as law}
use Rattle.jg_laws.proofs.no_reference_twice.Goals as goal

pub returns : goal.returns
returns c = law
