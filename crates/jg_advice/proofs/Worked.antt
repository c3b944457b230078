-- What is worked out.
use Rattle.std.proofs.Common.{◌≡◌, refl}
use Rattle.std.specs.Prelude.{codes}
use Rattle.jg_rows.specs.ByName.{name_at}
use Rattle.jg_advice.specs.Functions.{find_class}

find_class_is : name_at find_class ≡ codes "FindClass"
find_class_is = refl
