-- What contracts see of a row.
use Rattle.std.specs.Prelude.{ℕ, ◌≡◌, Bool, List, Option, slice_get}
use Rattle.jg_rows.specs.declared.row.Row.{Row}
use Rattle.jg_rows.specs.declared.row.Section.{Section}
use Rattle.jg_rows.specs.declared.row.Since.{Since}
use Rattle.jg_rows.specs.declared.row.Takes.{Takes}
use Rattle.jg_rows.specs.declared.row.Passes.{Passes}
use Rattle.jg_rows.specs.declared.row.Throws.{Throws}
use Rattle.jg_rows.specs.declared.row.Runs.{Runs}
use Rattle.jg_rows.specs.declared.row.Effect.{Effect}

-- the columns, as `Row` of the code has them
pub record Columns : Type 0 where
  pub section : Section
  pub name : List ℕ
  pub since : Since
  pub takes : List Takes
  pub takes_env : Bool
  pub passes : Passes
  pub throws : Throws
  pub runs : Runs
  pub effect : Effect

abbrev pub columns : Row → Columns
columns row = record {
  section = row.section;
  name = row.name.now;
  since = row.since;
  takes = row.takes.now;
  takes_env = row.takes_env;
  passes = row.passes;
  throws = row.throws;
  runs = row.runs;
  effect = row.effect;
}

-- the row at this place of the list, where it has one
pub record IsRowAt (rows : List Row) (place : ℕ) (row : Option Row) : Type 0 where
  pub is : row ≡ slice_get rows place
