use Rattle.jg_policy.proofs.LinkLaws.{is_linked, linked_from}
use Rattle.jg_policy.proofs.meanings.linked_means.Goals as goal

pub returns : goal.returns
returns c e class native = (is_linked e class native, linked_from e class native)
