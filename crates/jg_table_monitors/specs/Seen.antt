-- What contracts see of the rows that the code keeps.
use Rattle.std.specs.Prelude.{ℕ, ◌+◌, ◌-◌, ◌==◌, nat_lt, if◌then◌else◌, Option, Some, None}
use Rattle.jg_table_monitors.specs.declared.owned.Owned.{Owned}
use Rattle.jg_table_monitors.specs.declared.owned.Found.{Found}
use Rattle.jg_table_monitors.specs.declared.owned.Found.TheVariants.{Free, Own, Others}
use Rattle.jg_table_monitors.specs.Rows.{Row}

abbrev pub seen : ℕ × Owned → Row
seen e = record { object = e.0; owner = e.1.tid; count = e.1.count }

-- a count lowered by one, and the monitor free at 0
abbrev pub lowered : Option Owned → Option Owned
lowered None = None
lowered (Some w) = if nat_lt 1 w.count then Some (record w { count = w.count - 1 }) else None

-- how often the owner entered a monitor and didn't exit it; 0 where it is free
abbrev pub count_kept : Option Owned → ℕ
count_kept None = 0
count_kept (Some w) = w.count

-- what a thread finds that would enter the monitor
abbrev pub finds : ℕ → Option Owned → Found
finds t None = Free
finds t (Some w) = if w.tid == t then Own else Others

-- a count that the thread's entry raises, and another's as it was
abbrev pub raised : ℕ → Option Owned → Option Owned
raised t None = None
raised t (Some w) = if w.tid == t then Some (record w { count = w.count + 1 }) else Some w
