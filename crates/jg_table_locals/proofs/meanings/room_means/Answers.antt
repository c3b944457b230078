use Rattle.jg_table_locals.proofs.Rooms.{room_means as law}
use Rattle.jg_table_locals.proofs.meanings.room_means.Goals as goal

pub returns : goal.returns
returns c = law
