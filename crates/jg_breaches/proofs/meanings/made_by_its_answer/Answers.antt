use Rattle.jg_breaches.proofs.Making.{made_by_its_answer as law}
use Rattle.jg_breaches.proofs.meanings.made_by_its_answer.Goals as goal

pub returns : goal.returns
returns c = law
