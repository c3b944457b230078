use Rattle.jg_policy.specs.Classes.{fields_in, class_at}
use Rattle.jg_policy.proofs.NameLaws.{member_has_its_name, one_member_name}
use Rattle.jg_policy.proofs.meanings.field_numbers_tell_names.Goals as goal

pub returns : goal.returns
returns c = record {
  named = λ s class. member_has_its_name (fields_in (class_at s class));
  one = λ s class. one_member_name (fields_in (class_at s class));
}
