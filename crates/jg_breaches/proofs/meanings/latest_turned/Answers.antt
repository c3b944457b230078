use Rattle.jg_breaches.proofs.Turning.{latest_turned as law}
use Rattle.jg_breaches.proofs.meanings.latest_turned.Goals as goal

pub returns : goal.returns
returns c = law
