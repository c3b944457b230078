use Rattle.jg_table_locals.proofs.Callers.{entered_law as law}
use Rattle.jg_table_locals.proofs.meanings.entered_means.Goals as goal

pub returns : goal.returns
returns c = law
