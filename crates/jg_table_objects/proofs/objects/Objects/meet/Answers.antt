use Rattle.std.specs.Prelude.{None}
use Rattle.jg_table_objects.proofs.Steps.{met_stands}
use Rattle.jg_table_objects.proofs.objects.Objects.meet.Goals as goal

pub returns-clause-stands : goal.returns-clause-stands
returns-clause-stands g c = λ e stands.
    met_stands c.self.view_is e stands (record { class = c.args.class; length = c.args.length; mark = None }) _ c.in_ok-add.ensures.found c.add.ensures.once
