use Rattle.std.proofs.Common.{sym, ap, ◌∙◌}
use Rattle.std.specs.Option.{option_map}
use Rattle.jg_table_objects.specs.Rows.{class_and_length}
use Rattle.jg_table_objects.proofs.Told.{class_told}
use Rattle.jg_table_objects.proofs.Steps.{class_found}
use Rattle.jg_table_objects.proofs.objects.Objects.class_there.Goals as goal

pub returns-in-Some : goal.returns-in-Some
returns-in-Some g c = λ e stands.
    ap (λ found. class_told (option_map class_and_length found)) (sym c.in-Some.is ∙ c.look.ensures) ∙ class_found c.self.view_is e stands c.args.object.0

pub returns-in-None : goal.returns-in-None
returns-in-None g c = λ e stands.
    ap (λ found. class_told (option_map class_and_length found)) (sym c.in-None.is ∙ c.look.ensures) ∙ class_found c.self.view_is e stands c.args.object.0
