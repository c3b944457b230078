use Rattle.jg_breaches.proofs.Making.{ends_once as law}
use Rattle.jg_breaches.proofs.meanings.ends_once.Goals as goal

pub returns : goal.returns
returns c = law
