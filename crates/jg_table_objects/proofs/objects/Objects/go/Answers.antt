use Rattle.jg_table_objects.proofs.Steps.{gone_stands}
use Rattle.jg_table_objects.proofs.objects.Objects.go.Goals as goal

pub returns-clause-stands : goal.returns-clause-stands
returns-clause-stands g c = λ e stands. gone_stands c.self.view_is e stands c.args.objects.now _ c.forget.ensures.forgotten c.forget.ensures.once
