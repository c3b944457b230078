-- Monitors, told by looking back. A list of events has the newest first. Sessions aren't told of here: a thread's
-- session ends with a release of all that it owns, and begins with none.
use Rattle.jg_lists.specs.Acts as acts
pub use Rattle.jg_lists.specs.Acts.{by, acts_of, how_many}
use Rattle.std.specs.Prelude.{ℕ, ◌-◌, Bool, true, false, ◌==◌, nat_lt, if◌then◌else◌, List, [], ◌∷◌, map, Option, Some, None}
use Rattle.std.specs.List.{find}
use Rattle.jg_table_monitors.specs.declared.entering.Entering.{Entering}
use Rattle.jg_table_monitors.specs.declared.entering.Entering.TheVariants.{Entered, Busy}

-- what a thread did: it entered the monitor of an object, exited it, or released all that it owns, as its detachment
-- does
pub data Act : Type 0 where
  Enter : (object : ℕ) → Act
  Exit : (object : ℕ) → Act
  ReleaseAll : Act

-- an act, with the thread that did it
abbrev pub Event : Type 0
Event = acts.Event Act

-- what it did since it last released all
abbrev pub since : List Act → List Act
since [] = []
since (ReleaseAll ∷ acts) = []
since (a ∷ acts) = a ∷ since acts

-- the act enters the monitor of that object
abbrev pub enters : ℕ → Act → Bool
enters o (Enter p) = p == o
enters o a = false

-- the act exits it
abbrev pub exits : ℕ → Act → Bool
exits o (Exit p) = p == o
exits o a = false

-- how often the thread entered the monitor and didn't exit it since it last released all (JNI chapter 4, "MonitorEnter"
-- and "MonitorExit")
abbrev pub count : List Event → ℕ → ℕ → ℕ
count e t o = how_many (enters o) (since (acts_of t e)) - how_many (exits o) (since (acts_of t e))

-- the thread that owns the monitor: one whose count is above 0
abbrev pub owner : List Event → ℕ → Option ℕ
owner e o = find (λ t. nat_lt 0 (count e t o)) (map (λ ev. ev.tid) e)

abbrev pub count_of : List Event → ℕ → Option ℕ → ℕ
count_of e o None = 0
count_of e o (Some t) = count e t o

-- how often its owner entered it and didn't exit it; 0 where it is free
abbrev pub owner_count : List Event → ℕ → ℕ
owner_count e o = count_of e o (owner e o)

abbrev pub is_some : Option ℕ → Bool
is_some None = false
is_some (Some t) = true

-- some thread owns the monitor
abbrev pub held : List Event → ℕ → Bool
held e o = is_some (owner e o)

-- what the thread's attempt to enter answers: another owner keeps it out
abbrev pub entering : ℕ → Option ℕ → Entering
entering t None = Entered
entering t (Some u) = if u == t then Entered else Busy
