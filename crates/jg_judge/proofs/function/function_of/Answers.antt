use Rattle.std.proofs.Common.{◌≡◌, Some, subst}
use Rattle.std.specs.Prelude.{slice_get}
use Rattle.jg_rows.specs.Table.{functions}
use Rattle.jg_judge.specs.Written.{row_for}
use Rattle.jg_judge.proofs.function.function_of.Goals as goal

pub returns : goal.returns
returns c = subst (λ f. slice_get functions c.place_of.result ≡ Some (row_for f)) c.fun.ensures c.place_of.ensures
