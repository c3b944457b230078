use Rattle.std.proofs.Common.{◌≡◌, ◌++◌, List, length}
use Rattle.jg_witness.specs.Events.{Event}
use Rattle.jg_witness.specs.Standing.{WitnessStands, both}
use Rattle.jg_witness.specs.Words.{arguments_of}
use Rattle.jg_witness.proofs.reading.read.Given as goal

-- what was read and what is left is all
abbrev pub invariant-loop-operand : goal.invariant-loop-operand
invariant-loop-operand g l = (e : List Event) → WitnessStands (both l.core l.names.entries) e
    → arguments_of l.tid e l.operands ≡ l.arguments.items ++ arguments_of l.tid e l.rest

abbrev pub decreases-loop-operand : goal.decreases-loop-operand
decreases-loop-operand g l = length l.rest
