-- What other crates rest on: each is a law of specs/Laws.
use Rattle.jg_table_objects.specs.Laws.{MarksKeep, ToldMeans, WentMeans}
use Rattle.jg_table_objects.proofs.Steps.{marks_keep}
use Rattle.jg_table_objects.proofs.Told.{told_means, went_means}

told_law : ToldMeans
told_law k e o class len = told_means k e o class len

went_law : WentMeans
went_law k objects e = went_means k objects e

pub marks_law : MarksKeep
marks_law old new e same stands = marks_keep old new e same stands
