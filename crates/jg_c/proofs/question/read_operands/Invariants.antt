use Rattle.std.proofs.Common.{length}
use Rattle.jg_c.proofs.Reading.{Leaves}
use Rattle.jg_c.proofs.question.read_operands.Given as goal

abbrev pub invariant-loop-value : goal.invariant-loop-value
invariant-loop-value g l = Leaves (g.X.Reading.reading l.most) l.values l.operands.items l.rest

abbrev pub decreases-loop-value : goal.decreases-loop-value
decreases-loop-value g l = length l.rest
