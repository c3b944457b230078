use Rattle.jg_core_laws.proofs.Leases.{passes_still as law}
use Rattle.jg_core_laws.proofs.passes_still.Goals as goal

pub returns : goal.returns
returns c = law
