use Rattle.jg_lists.proofs.Marks.{noted_somewhere}
use Rattle.jg_lists.proofs.object_marks.note.Goals as goal

pub returns-clause-set : goal.returns-clause-set
returns-clause-set c = rw c.min.ensures (noted_somewhere c.args.turns.now c.args.turn c.args.object c.requires)
