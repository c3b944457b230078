use Rattle.jg_witness.proofs.Leases.{words_pass_still as law}
use Rattle.jg_witness.proofs.promises.words_pass_still.Goals as goal

pub returns : goal.returns
returns c = law
