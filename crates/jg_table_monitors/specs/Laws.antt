-- What the definitions mean for every list that some table stands for.
use Rattle.std.specs.Prelude.{◌≡◌, ℕ, ◌+◌, ◌<◌, ◌≤◌, length, Bool, true, false, ◌↔◌, List, [], ◌∷◌, ◌++◌, Some, IsTrue}
use Rattle.std.specs.List.{list_any}
use Rattle.jg_table_monitors.specs.History.{Act, ReleaseAll, Event, acts_of, since, enters, exits, how_many, count, owner, owner_count, held}
use Rattle.jg_table_monitors.specs.Rows.{Rows, row_of, owner_in, count_in}
use Rattle.jg_table_monitors.specs.Standing.{Stands}

-- two threads whose counts of a monitor are above 0 are one
-- (proofs/Counting.antt)
abbrev pub OneOwner : Type 0
OneOwner = (rows : Rows) (e : List Event) (t u o : ℕ) → Stands rows e → 0 < count e t o → 0 < count e u o → t ≡ u

-- the owner is the thread whose count is above 0
-- (proofs/Counting.antt)
abbrev pub OwnerMeans : Type 0
OwnerMeans = (rows : Rows) (e : List Event) (t o : ℕ) → Stands rows e → (owner e o ≡ Some t) ↔ (0 < count e t o)

-- a monitor is held where some thread's count of it is above 0
-- (proofs/Callers.antt)
abbrev pub HeldMeans : Type 0
HeldMeans = (e : List Event) (o : ℕ) → IsTrue (held e o) ↔ ((t : ℕ) × (0 < count e t o))

-- a count and the exits since the thread last released all are the entries since then
-- (proofs/Splits.antt)
abbrev pub CountMeans : Type 0
CountMeans = (rows : Rows) (e : List Event) (t o : ℕ) → Stands rows e
    → count e t o + how_many (exits o) (since (acts_of t e)) ≡ how_many (enters o) (since (acts_of t e))

abbrev pub releases : Act → Bool
releases ReleaseAll = true
releases a = false

-- the acts fall into those since the thread last released all, among which is no release of all, and the others, which
-- are none or begin with such a release
pub record SplitsAtRelease (acts : List Act) : Type 0 where
  pub before : List Act
  pub whole : acts ≡ since acts ++ before
  pub none_since : list_any releases (since acts) ≡ false
  pub begins : list_any releases before ≡ false → before ≡ []
  pub newest : (a : Act) (older : List Act) → before ≡ a ∷ older → a ≡ ReleaseAll

-- (proofs/Splits.antt)
abbrev pub SinceMeans : Type 0
SinceMeans = (acts : List Act) → SplitsAtRelease acts

-- the row of an object's monitor tells its owner and that owner's count
pub record RowTells (rows : Rows) (e : List Event) (o : ℕ) : Type 0 where
  pub owner : owner_in (row_of o rows) ≡ owner e o
  pub count : count_in (row_of o rows) ≡ owner_count e o

-- (proofs/Lookups.antt)
abbrev pub RowsTell : Type 0
RowsTell = (rows : Rows) (e : List Event) (o : ℕ) → Stands rows e → RowTells rows e o

-- a count is at most the number of events
-- (proofs/Splits.antt)
abbrev pub CountIsBounded : Type 0
CountIsBounded = (e : List Event) (o : ℕ) → owner_count e o ≤ length e
