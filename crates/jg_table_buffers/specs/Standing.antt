-- When rows stand for a list of events.
use Rattle.std.specs.Prelude.{◌≡◌, ℕ, List, [], ◌∷◌, filter, Option, Some, None}
use Rattle.jg_table_buffers.specs.History.{Buffer, Event, opened, items_now}
use Rattle.jg_table_buffers.specs.Rows.{Rows, is_buffer}

-- the row of an open buffer: as it was opened, with its items as they are now
abbrev pub rows_of : List Event → ℕ → ℕ → Option Buffer → List Buffer
rows_of e maker n None = []
rows_of e maker n (Some b) = record b { items = items_now e maker n b } ∷ []

-- the rows are those of the open buffers, each once, in any order
abbrev pub Stands : Rows → List Event → Type 0
Stands rows e = (maker n : ℕ) → filter (is_buffer maker n) rows.lent ≡ rows_of e maker n (opened e maker n)
