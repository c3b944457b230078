-- The rows that the table keeps.
use Rattle.std.specs.Prelude.{ℕ, ◌<◌, Bool, ◌==◌, List, [], ◌∷◌, All, find, Option, Some, None}
use Rattle.jg_table_monitors.specs.declared.owned_monitor.OwnedMonitor.{OwnedMonitor}

-- an owned monitor: its object, its owner, and how often that entered it and didn't exit it
pub record Row : Type 0 where
  pub object : ℕ
  pub owner : ℕ
  pub count : ℕ

pub record Rows : Type 0 where
  pub owned : List Row

-- the row as a list of owned monitors has it
abbrev pub owned_monitor : Row → OwnedMonitor
owned_monitor row = record { object = record { 0 = row.object }; owner = record { 0 = row.owner }; count = row.count }

-- each monitor's object is below those of all later ones
abbrev pub Ascends : List OwnedMonitor → Type 0
Ascends [] = Unit {0}
Ascends (monitor ∷ later) = All (λ other. monitor.object.0 < other.object.0) later × Ascends later

abbrev pub is_of : ℕ → Row → Bool
is_of o row = row.object == o

-- the row of the object's monitor, if it is owned
abbrev pub row_of : ℕ → Rows → Option Row
row_of o rows = find (is_of o) rows.owned

abbrev pub owner_in : Option Row → Option ℕ
owner_in None = None
owner_in (Some row) = Some row.owner

abbrev pub count_in : Option Row → ℕ
count_in None = 0
count_in (Some row) = row.count
