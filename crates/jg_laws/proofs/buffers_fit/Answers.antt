use Rattle.jg_laws.proofs.Lending.{buffers_fit as law}
use Rattle.jg_laws.proofs.buffers_fit.Goals as goal

pub returns : goal.returns
returns c = law
