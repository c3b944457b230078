use Rattle.jg_table_locals.proofs.Lives.{deleted_stays_dead as law}
use Rattle.jg_table_locals.proofs.meanings.deleted_is_never_live.Goals as goal

pub returns : goal.returns
returns c = law
