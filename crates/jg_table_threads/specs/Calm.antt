-- By which rows no exception is pending.
use Rattle.std.specs.Prelude.{◌≡◌, ◌≢◌, ℕ, ◌<◌, ◌≤◌, List, None, IfSome}
use Rattle.jg_lists.specs.ByThread.{at}
use Rattle.jg_lists.specs.ByPlace.{IsSeatOf}
use Rattle.jg_table_threads.specs.Rows.{Row}

abbrev pub IsCalm : Row → Type 0
IsCalm row = row.pending ≡ None

-- nothing is pending by the rows at that place and behind it
abbrev pub AreCalm : ℕ → List (ℕ × Row) → Type 0
AreCalm raised rows = (t i : ℕ) → IsSeatOf t i rows → raised ≤ i → IfSome (at t rows) IsCalm

-- the same, but for that thread's row
abbrev pub AreOthersCalm : ℕ → ℕ → List (ℕ × Row) → Type 0
AreOthersCalm u raised rows = (t i : ℕ) → t ≢ u → IsSeatOf t i rows → raised ≤ i → IfSome (at t rows) IsCalm

-- the thread's row stands before that place
abbrev pub IsInFront : ℕ → ℕ → List (ℕ × Row) → Type 0
IsInFront u raised rows = (i : ℕ) → IsSeatOf u i rows → i < raised
