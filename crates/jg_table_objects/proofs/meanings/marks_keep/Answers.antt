use Rattle.jg_table_objects.proofs.Steps.{marks_keep}
use Rattle.jg_table_objects.proofs.meanings.marks_keep.Goals as goal

pub returns : goal.returns
returns c = marks_keep
