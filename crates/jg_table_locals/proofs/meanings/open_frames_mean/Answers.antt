use Rattle.jg_table_locals.proofs.OpenFrames.{open_frames_mean as law}
use Rattle.jg_table_locals.proofs.meanings.open_frames_mean.Goals as goal

pub returns : goal.returns
returns c = law
