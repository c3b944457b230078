use Rattle.jg_laws.proofs.Owners.{one_owner as law}
use Rattle.jg_laws.proofs.one_owner.Goals as goal

pub returns : goal.returns
returns c = law
