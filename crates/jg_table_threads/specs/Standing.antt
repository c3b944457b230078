-- When rows stand for a list of events.
use Rattle.std.specs.Prelude.{◌≡◌, ◌<◌, ℕ, true, ◌==◌, if◌then◌else◌, List, [], ◌∷◌}
use Rattle.jg_table_threads.specs.History.{Act, Attach, Detach, Enter, Leave, Raise, Calm, CountRef, CountBuffer, Event, acts_of, how_many, attached, was_attached, sessions, depth, pending, refs, buffers}
use Rattle.jg_table_threads.specs.Rows.{Row, row_of}

-- the condition under which a thread does the act: in a session, but for attaching, detaching and calming
abbrev pub IsAllowed : Act → List Act → Type 0
IsAllowed Attach acts = Unit {0}
IsAllowed Detach acts = Unit {0}
IsAllowed Enter acts = attached acts ≡ true
IsAllowed Leave acts = 0 < depth acts
IsAllowed (Raise o) acts = attached acts ≡ true
IsAllowed Calm acts = Unit {0}
IsAllowed CountRef acts = attached acts ≡ true
IsAllowed CountBuffer acts = attached acts ≡ true

-- each act was allowed at its time
abbrev pub AllAllowed : List Act → Type 0
AllAllowed [] = Unit {0}
AllAllowed (a ∷ acts) = AllAllowed acts × IsAllowed a acts

-- the row of a thread that did these acts
abbrev pub row_by : List Act → Row
row_by acts =
    record {
      attached = attached acts;
      sessions = sessions acts;
      depth = depth acts;
      pending = pending acts;
      refs = refs acts;
      buffers = buffers acts;
    }

abbrev pub row_after : List Event → ℕ → Row
row_after e t = row_by (acts_of t e)

-- how many rows the table has of a thread: one where it was ever attached
abbrev pub rows_wanted : List Act → ℕ
rows_wanted acts = if was_attached acts then 1 else 0

-- each thread's row is what it did, there is one row of each thread that was ever attached and none of any other, and
-- each act was allowed at its time
pub record Stands (rows : List (ℕ × Row)) (e : List Event) : Type 0 where
  pub threads : (t : ℕ) → row_of rows t ≡ row_after e t
  pub once : (t : ℕ) → how_many (λ row. row.0 == t) rows ≡ rows_wanted (acts_of t e)
  pub allowed : (t : ℕ) → AllAllowed (acts_of t e)
