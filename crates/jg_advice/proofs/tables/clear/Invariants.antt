use Rattle.std.proofs.Common.{length}
use Rattle.jg_lists.specs.ByMaker.{named}
use Rattle.jg_lists.proofs.Taken.{Leaves}
use Rattle.jg_advice.proofs.tables.clear.Given as goal

-- nothing of another maker was taken
abbrev pub invariant-loop-value : goal.invariant-loop-value
invariant-loop-value g l = Leaves l.maker (named l.initial.tables) (named l.tables)

abbrev pub decreases-loop-value : goal.decreases-loop-value
decreases-loop-value g l = length (named l.tables)
