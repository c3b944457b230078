use Rattle.jg_record_laws.proofs.Cut.{cut_once}
use Rattle.jg_record_laws.proofs.cut_in_one_way.Goals as goal

pub returns : goal.returns
returns c = cut_once
