use Rattle.std.proofs.Common.{ℕ, ◌≤◌}
use Rattle.jg_table_globals.specs.Rows.{IsAbove}
use Rattle.jg_test_tables.proofs.tests.globals.make_for_all.Given as goal

-- the makers to come have made nothing
abbrev pub invariant-loop-t : goal.invariant-loop-t
invariant-loop-t l = (maker : ℕ) → l.t ≤ maker → IsAbove maker 1 l.table
