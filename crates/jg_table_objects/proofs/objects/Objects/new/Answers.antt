use Rattle.jg_table_objects.proofs.Steps.{none_stand}
use Rattle.jg_table_objects.proofs.objects.Objects.new.Goals as goal

pub returns-clause-stands : goal.returns-clause-stands
returns-clause-stands g c = rw (c.from.ensures, c.from-2.ensures) (none_stand c.args.class_count c.new.result c.new.ensures.empty c.new.ensures.once)
