use Rattle.jg_table_globals.specs.Clearing.{IsCleared, EachChanged}
use Rattle.jg_table_globals.proofs.Changed.{ChangedSoFar}
use Rattle.jg_table_globals.proofs.sweep.clear_rows.Given as goal

-- the tables so far are cleared by the test, and the others are as they were
abbrev pub invariant-loop-i : goal.invariant-loop-i
invariant-loop-i g l = ChangedSoFar (EachChanged (IsCleared (goal.F-post g l.test))) l.initial.rows l.rows l.i
