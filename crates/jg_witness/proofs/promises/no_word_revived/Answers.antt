use Rattle.jg_witness.proofs.Meant.{revived_law}
use Rattle.jg_witness.proofs.promises.no_word_revived.Goals as goal

pub returns : goal.returns
returns c = revived_law
