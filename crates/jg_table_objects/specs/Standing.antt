-- When rows stand for a list of events.
use Rattle.std.specs.Prelude.{ℕ, ◌≡◌, List}
use Rattle.jg_lists.specs.ByThread.{IsOnce}
use Rattle.jg_table_heap.specs.History.{Event, count_of}
use Rattle.jg_table_objects.specs.History.{told}
use Rattle.jg_table_objects.specs.Rows.{Rows, told_in}

-- the rows tell how many objects there ever were, and of each object that is there and is no class object its class and
-- its length, once
pub record Stands (rows : Rows) (e : List Event) : Type 0 where
  pub count : rows.count ≡ count_of rows.classes e
  pub told : (o : ℕ) → told_in rows o ≡ told rows.classes e o
  pub once : IsOnce rows.there

-- they stand for these events, beside so many class objects
pub record Tells (rows : Rows) (k : ℕ) (e : List Event) : Type 0 where
  pub stands : Stands rows e
  pub classes : rows.classes ≡ k
