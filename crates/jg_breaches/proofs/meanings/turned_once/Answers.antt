use Rattle.jg_breaches.proofs.Turning.{turned_once as law}
use Rattle.jg_breaches.proofs.meanings.turned_once.Goals as goal

pub returns : goal.returns
returns c = law
