use Rattle.jg_witness.proofs.Meant.{handed_law}
use Rattle.jg_witness.proofs.promises.handed_means.Goals as goal

pub returns : goal.returns
returns c = handed_law
