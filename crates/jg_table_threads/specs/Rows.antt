-- The rows that the table keeps.
use Rattle.std.specs.Prelude.{ℕ, ◌-◌, ◌^◌, ◌<◌, false, List, Option, Some, None}
use Rattle.std.specs.Ordering.{nat_cmp}
use Rattle.std.specs.BTreeMap.{is_at}
use Rattle.std.specs.Map.{lookup}
pub use Rattle.jg_table_threads.specs.declared.row.Row.{Row}

-- a thread that did nothing
abbrev pub no_row : Row
no_row = record { attached = false; sessions = 0; depth = 0; pending = None; refs = 0; buffers = 0 }

abbrev pub row_or_none : Option Row → Row
row_or_none None = no_row
row_or_none (Some row) = row

-- the row of the thread
abbrev pub row_of : List (ℕ × Row) → ℕ → Row
row_of rows t = row_or_none (lookup (is_at (nat_cmp t)) rows)

-- the thread's counts may rise by one
pub record CanCount (rows : List (ℕ × Row)) (t : ℕ) : Type 0 where
  pub sessions : (row_of rows t).sessions < 2 ^ 64 - 1
  pub refs : (row_of rows t).refs < 2 ^ 64 - 1
  pub buffers : (row_of rows t).buffers < 2 ^ 64 - 1
  pub depth : (row_of rows t).depth < 2 ^ 64 - 1
