-- What a history is to each table, and when the tables stand for it.
use Rattle.std.specs.Prelude.{◌≡◌, ℕ, List, []}
use Rattle.jg_policy.specs.Stated.{StatedSetup, class_count}
use Rattle.jg_policy.specs.Links as links
use Rattle.jg_policy.specs.LinkRows as link_rows
use Rattle.jg_policy.specs.LinkStanding as link_standing
use Rattle.jg_table_threads.specs.History as threads
use Rattle.jg_table_threads.specs.declared.row.Row.{Row}
use Rattle.jg_table_threads.specs.Standing as thread_standing
use Rattle.jg_table_locals.specs.History as locals
use Rattle.jg_table_locals.specs.Rows as local_rows
use Rattle.jg_table_locals.specs.Standing as local_standing
use Rattle.jg_table_globals.specs.History as globals
use Rattle.jg_table_globals.specs.Rows as global_rows
use Rattle.jg_table_globals.specs.Standing as global_standing
use Rattle.jg_table_buffers.specs.History as buffers
use Rattle.jg_table_buffers.specs.Rows as buffer_rows
use Rattle.jg_table_buffers.specs.Standing as buffer_standing
use Rattle.jg_table_monitors.specs.History as monitors
use Rattle.jg_table_monitors.specs.Rows as monitor_rows
use Rattle.jg_table_monitors.specs.Standing as monitor_standing
use Rattle.jg_table_heap.specs.History as heap
use Rattle.jg_table_heap.specs.Rows as heap_rows
use Rattle.jg_table_heap.specs.Standing as heap_standing

-- the events of each table, the newest first
pub record Parts : Type 0 where
  pub threads : List threads.Event
  pub locals : List locals.Event
  pub globals : List globals.Event
  pub buffers : List buffers.Event
  pub monitors : List monitors.Event
  pub heap : List heap.Event
  pub links : List links.Event

abbrev pub nothing_yet : Parts
nothing_yet = record { threads = []; locals = []; globals = []; buffers = []; monitors = []; heap = []; links = [] }

-- what the tables keep, where the store of objects keeps this
pub record RowsBeside (Store : Type 0) : Type 0 where
  pub threads : List (ℕ × Row)
  pub locals : local_rows.Rows
  pub globals : global_rows.Rows
  pub buffers : buffer_rows.Rows
  pub monitors : monitor_rows.Rows
  pub heap : Store
  pub links : link_rows.Rows

-- each table stands for its events; so does the store, beside the setup's class objects, as `Tells` says of it
pub record StandBeside {Store : Type 0} (Tells : Store → ℕ → List heap.Event → Type 0) (setup : StatedSetup)
    (rows : RowsBeside Store) (p : Parts) : Type 0 where
  pub threads : thread_standing.Stands rows.threads p.threads
  pub locals : local_standing.Stands rows.locals p.locals
  pub globals : global_standing.Stands rows.globals p.globals
  pub buffers : buffer_standing.Stands rows.buffers p.buffers
  pub monitors : monitor_standing.Stands rows.monitors p.monitors
  pub heap : Tells rows.heap (class_count setup) p.heap
  pub links : link_standing.Stands rows.links p.links

-- the guard's store stands for its events, and has so many class objects
pub record HeapTells (rows : heap_rows.Rows) (k : ℕ) (e : List heap.Event) : Type 0 where
  pub stands : heap_standing.Stands rows e
  pub classes : rows.classes ≡ k

-- what the guard's tables keep, and when they stand for such events
abbrev pub TableRows : Type 0
TableRows = RowsBeside heap_rows.Rows

abbrev pub TablesStand : StatedSetup → TableRows → Parts → Type 0
TablesStand setup rows p = StandBeside HeapTells setup rows p

-- the tables of what holds objects stand for these events, whatever the store is
pub record HoldersStand {Store : Type 0} (rows : RowsBeside Store) (p : Parts) : Type 0 where
  pub threads : thread_standing.Stands rows.threads p.threads
  pub locals : local_standing.Stands rows.locals p.locals
  pub globals : global_standing.Stands rows.globals p.globals
  pub buffers : buffer_standing.Stands rows.buffers p.buffers
  pub monitors : monitor_standing.Stands rows.monitors p.monitors
