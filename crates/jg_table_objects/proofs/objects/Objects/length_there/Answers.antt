use Rattle.std.proofs.Common.{sym, ap, ◌∙◌}
use Rattle.std.specs.Option.{option_map}
use Rattle.jg_table_objects.specs.declared.kept.Kept.{Kept}
use Rattle.jg_table_objects.proofs.Steps.{length_found}
use Rattle.jg_table_objects.proofs.objects.Objects.length_there.Goals as goal

pub returns-in-Some : goal.returns-in-Some
returns-in-Some g c = λ e stands.
    ap (option_map (λ (kept : Kept). kept.length)) (sym c.in-Some.is ∙ c.look.ensures) ∙ length_found c.self.view_is e stands c.args.object.0

pub returns-in-None : goal.returns-in-None
returns-in-None g c = λ e stands.
    ap (option_map (λ (kept : Kept). kept.length)) (sym c.in-None.is ∙ c.look.ensures) ∙ length_found c.self.view_is e stands c.args.object.0
