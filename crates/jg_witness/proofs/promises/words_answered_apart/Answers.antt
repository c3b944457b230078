use Rattle.jg_witness.proofs.Apart.{words_answered_apart as law}
use Rattle.jg_witness.proofs.promises.words_answered_apart.Goals as goal

pub returns : goal.returns
returns c = law
