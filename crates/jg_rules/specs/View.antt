-- What a view stands for.
use Rattle.std.specs.Prelude.{ℕ, List}
use Rattle.jg_table_heap.specs.History.{Event}
use Rattle.jg_table_heap.specs.Rows.{Rows}
use Rattle.jg_rules.specs.declared.view.View.{View}
use Rattle.jg_rules.specs.Parts.{HeapTells, Parts, RowsBeside, StandBeside}

-- the rows of the tables that it lends
abbrev pub rows_in : {A S I : Type 0} → View A S I → RowsBeside S
rows_in view = record {
  threads = view.threads.now;
  locals = view.locals.now.rows;
  globals = view.globals.now;
  buffers = view.buffers.now;
  monitors = view.monitors.now;
  heap = view.heap.now;
  links = view.links.now.rows;
}

-- the setup and the tables that it lends stand for these events, the store as `Tells` says of it
abbrev pub ViewTells : {A S I : Type 0} → (S → ℕ → List Event → Type 0) → View A S I → Parts → Type 0
ViewTells Tells view p = StandBeside Tells view.setup.now (rows_in view) p

-- the same of the guard's view
abbrev pub ViewStands : {A I : Type 0} → View A Rows I → Parts → Type 0
ViewStands view p = ViewTells HeapTells view p
