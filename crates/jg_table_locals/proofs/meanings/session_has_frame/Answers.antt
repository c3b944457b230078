use Rattle.jg_table_locals.proofs.Callers.{has_frame_law as law}
use Rattle.jg_table_locals.proofs.meanings.session_has_frame.Goals as goal

pub returns : goal.returns
returns c = law
