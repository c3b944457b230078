-- When rows stand for a list of events.
use Rattle.std.specs.Prelude.{◌≡◌, ℕ, zero, suc, ◌<◌, true, false, ◌==◌, if◌then◌else◌, List, [], ◌∷◌, ◌++◌, filter, Option, Some, None}
use Rattle.jg_table_locals.specs.History.{Act, Start, Make, Push, Ensure, Enter, Delete, Pop, Leave, End, Event, acts_of, has_session, depth, frames, Local, live_local}
use Rattle.jg_table_locals.specs.Room.{frame_room}
use Rattle.jg_table_locals.specs.Rows.{LocalRow}
use Rattle.jg_table_locals.specs.Rows.{FrameRow}
use Rattle.jg_table_locals.specs.Rows.{Rows, is_local}

-- the condition under which the act may be done
abbrev pub IsAllowed : Act → List Act → Type 0
IsAllowed Start acts = has_session acts ≡ false
IsAllowed (Make n o) acts = has_session acts ≡ true
IsAllowed (Push room) acts = has_session acts ≡ true
IsAllowed (Ensure capacity) acts = has_session acts ≡ true
IsAllowed Enter acts = has_session acts ≡ true
IsAllowed (Delete n) acts = Unit {0}
IsAllowed Pop acts = 0 < frames (depth acts) acts
IsAllowed Leave acts = 0 < depth acts
IsAllowed End acts = Unit {0}

-- each act was allowed at its time
abbrev pub AllAllowed : List Act → Type 0
AllAllowed [] = Unit {0}
AllAllowed (a ∷ acts) = AllAllowed acts × IsAllowed a acts

-- the row of a live local
abbrev pub rows_of_local : ℕ → Option Local → List LocalRow
rows_of_local t None = []
rows_of_local t (Some l) =
    record { tid = t; n = l.n; object = l.object; depth = l.depth; frame = l.frame } ∷ []

-- the row of an open frame
abbrev pub row_of_frame : ℕ → ℕ → ℕ → List Act → FrameRow
row_of_frame t d k acts = record { tid = t; depth = d; frame = k; room = frame_room d k acts }

-- the rows of one activation: the frame that it began with, and those pushed in it
abbrev pub rows_at : ℕ → ℕ → ℕ → List Act → List FrameRow
rows_at t d zero acts = row_of_frame t d 0 acts ∷ []
rows_at t d (suc k) acts = rows_at t d k acts ++ row_of_frame t d (suc k) acts ∷ []

-- those of the activations up to that depth
abbrev pub rows_up_to : ℕ → ℕ → List Act → List FrameRow
rows_up_to t zero acts = rows_at t 0 (frames 0 acts) acts
rows_up_to t (suc d) acts = rows_up_to t d acts ++ rows_at t (suc d) (frames (suc d) acts) acts

abbrev pub open_frames : ℕ → List Act → List FrameRow
open_frames t acts = if has_session acts then rows_up_to t (depth acts) acts else []

-- the rows are those of the live locals and the open frames, each once, and each act was allowed at its time
pub record Stands (rows : Rows) (e : List Event) : Type 0 where
  pub locals : (t n : ℕ) → filter (is_local t n) rows.locals ≡ rows_of_local t (live_local n (acts_of t e))
  pub frames : (t : ℕ) → filter (λ row. row.tid == t) rows.frames ≡ open_frames t (acts_of t e)
  pub allowed : (t : ℕ) → AllAllowed (acts_of t e)
