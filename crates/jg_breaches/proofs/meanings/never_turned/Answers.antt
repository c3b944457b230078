use Rattle.jg_breaches.proofs.Turning.{never_turned as law}
use Rattle.jg_breaches.proofs.meanings.never_turned.Goals as goal

pub returns : goal.returns
returns c = law
