use Rattle.jg_program.proofs.Telling.{unwritten}
use Rattle.jg_program.proofs.playing.hand_out_different.Goals as goal

pub returns-in-Err-clause-tells : goal.returns-in-Err-clause-tells
returns-in-Err-clause-tells g c = unwritten _ _ c.args.back.now.guard _ _ c.in-Err.stop c.in-Err.ensures.written
