-- When rows stand for a list of events.
use Rattle.std.specs.Prelude.{◌≡◌, ◌≢◌, ℕ, ◌<◌, List, [], ◌∷◌, filter, Option, Some, None}
use Rattle.jg_table_monitors.specs.History.{Act, Enter, Exit, ReleaseAll, Event, count, owner}
use Rattle.jg_table_monitors.specs.Rows.{Rows, Row, is_of}

-- the condition under which a thread does the act: it enters what no other thread owns, and exits what it owns
abbrev pub IsAllowed : ℕ → Act → List Event → Type 0
IsAllowed t (Enter o) e = (u : ℕ) → u ≢ t → count e u o ≡ 0
IsAllowed t (Exit o) e = 0 < count e t o
IsAllowed t ReleaseAll e = Unit {0}

-- each act was allowed at its time
abbrev pub AllAllowed : List Event → Type 0
AllAllowed [] = Unit {0}
AllAllowed (ev ∷ e) = AllAllowed e × IsAllowed ev.tid ev.act e

-- the row of an owned monitor
abbrev pub rows_of : List Event → ℕ → Option ℕ → List Row
rows_of e o None = []
rows_of e o (Some t) = record { object = o; owner = t; count = count e t o } ∷ []

-- the rows are those of the owned monitors, each once, in any order, and each act was allowed at its time
pub record Stands (rows : Rows) (e : List Event) : Type 0 where
  pub owned : (o : ℕ) → filter (is_of o) rows.owned ≡ rows_of e o (owner e o)
  pub allowed : AllAllowed e
