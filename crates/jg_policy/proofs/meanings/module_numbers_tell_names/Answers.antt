use Rattle.jg_policy.proofs.ModuleLaws.{one_module, one_number}
use Rattle.jg_policy.proofs.meanings.module_numbers_tell_names.Goals as goal

pub returns : goal.returns
returns c s a b = (one_module s a b, one_number s a b)
