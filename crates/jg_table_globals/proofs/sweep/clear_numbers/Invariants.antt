use Rattle.jg_table_globals.specs.Clearing.{IsCleared}
use Rattle.jg_table_globals.proofs.Changed.{ChangedSoFar}
use Rattle.jg_table_globals.proofs.sweep.clear_numbers.Given as goal

-- the references so far are cleared by the test, and the others are as they were
abbrev pub invariant-loop-i : goal.invariant-loop-i
invariant-loop-i g l = ChangedSoFar (IsCleared (goal.F-post g l.test)) l.initial.numbers l.numbers l.i
