use Rattle.jg_policy.proofs.ModuleLaws.{class_of_module, module_of_class}
use Rattle.jg_policy.proofs.meanings.only_classes_have_modules.Goals as goal

pub returns : goal.returns
returns c s class = (class_of_module s class, module_of_class s class)
