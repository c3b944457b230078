use Rattle.jg_watch.proofs.Answering.{reads_on}
use Rattle.jg_watch.proofs.run.answer_next.Goals as goal

pub returns-in-Line-clause-reader : goal.returns-in-Line-clause-reader
returns-in-Line-clause-reader g c = reads_on _ _ c.answer_line.result c.answer_line.ensures.unread c.in-Ok.ensures.sound
