use Rattle.jg_program.proofs.Closed.{closed_states, closed_is_faultless}
use Rattle.jg_program.proofs.setup_file.closed_setup.Goals as goal

pub returns-clause-stated : goal.returns-clause-stated
returns-clause-stated c = closed_states _ c.read.ensures.stated

pub returns-clause-memory : goal.returns-clause-memory
returns-clause-memory c = closed_is_faultless _ c.read.ensures.refused
