-- What the core's helpers say of its tables. No public contract stands on this.
use Rattle.std.specs.Prelude.{ℕ, ◌≡◌, ◌^◌, true}
use Rattle.jg_policy.specs.Stated.{StatedSetup, class_count}
use Rattle.jg_table_threads.specs.History as threads
use Rattle.jg_table_locals.specs.History as locals
use Rattle.jg_table_globals.specs.Laws as global_laws
use Rattle.jg_table_buffers.specs.Laws as buffer_laws
use Rattle.jg_table_objects.specs.Rows.{Rows}
use Rattle.jg_table_objects.specs.Standing.{Tells}
use Rattle.jg_rules.specs.Parts.{Parts, RowsBeside, StandBeside}
use Rattle.jg_rules.specs.Names.{next_ref, next_buffer}
use Rattle.jg_laws.specs.Laws.{AgreeInNatives}
use Rattle.jg_core.specs.declared.fact.Fact.{Fact}
use Rattle.jg_core.specs.declared.tables.Tables.{Tables}
use Rattle.jg_core.specs.Counts.{AreFew}
use Rattle.jg_core.specs.Facts.{can_be, is_attached, on}

-- what the tables keep
abbrev pub rows_of : {A : Type 0} → Tables A → RowsBeside Rows
rows_of tables = record {
  threads = tables.threads;
  locals = tables.locals.rows;
  globals = tables.globals;
  buffers = tables.buffers;
  monitors = tables.monitors;
  heap = tables.objects;
  links = tables.links.rows;
}

-- the tables stand for these events
abbrev pub Stand : StatedSetup → RowsBeside Rows → Parts → Type 0
Stand s rows p = StandBeside Tells s rows p

-- they stand for what they stood for, with the fact's events in front
abbrev pub Takes : StatedSetup → Fact → RowsBeside Rows → RowsBeside Rows → Type 0
Takes s x old new = (p : Parts) → Stand s old p → Stand s new (on x p)

-- these events are those of facts that could be, and the counts that they give are small
pub record IsOrdinary (s : StatedSetup) (p : Parts) : Type 0 where
  pub agree : (t : ℕ) → AgreeInNatives (threads.acts_of t p.threads) (locals.acts_of t p.locals)
  pub below : (t : ℕ) → locals.IsMadeBelow (next_ref p t) (locals.acts_of t p.locals)
  pub globals_below : (t : ℕ) → global_laws.IsMadeBelow t (next_ref p t) p.globals
  pub buffers_below : (t : ℕ) → buffer_laws.IsOpenedBelow t (next_buffer p t) p.buffers
  pub few : AreFew (class_count s) (2 ^ 60) p

-- the tables stand for such events, after which the fact can be
pub record IsDue (s : StatedSetup) (rows : RowsBeside Rows) (x : Fact) : Type 0 where
  pub events : Parts
  pub ordinary : IsOrdinary s events
  pub stand : Stand s rows events
  pub can : can_be s events x ≡ true

-- the tables stand for such events, after which t has a session
pub record HasSession (s : StatedSetup) (rows : RowsBeside Rows) (t : ℕ) : Type 0 where
  pub events : Parts
  pub ordinary : IsOrdinary s events
  pub stand : Stand s rows events
  pub attached : is_attached events t ≡ true
