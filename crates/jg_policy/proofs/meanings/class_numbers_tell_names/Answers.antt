use Rattle.jg_policy.proofs.NameLaws.{class_has_its_name, one_class_name}
use Rattle.jg_policy.proofs.meanings.class_numbers_tell_names.Goals as goal

pub returns : goal.returns
returns c = record { named = class_has_its_name; one = one_class_name }
