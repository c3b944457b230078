-- The rows that the table keeps, and the room that it has.
use Rattle.std.specs.Prelude.{ℕ, Bool, false, ◌==◌, ◌&&◌, nat_lt, List, find, reverse, Option, Some, None, IsSome}
use Rattle.std.specs.Map.{lookup}
use Rattle.std.specs.Ordering.{nat_cmp}
use Rattle.std.specs.BTreeMap.{is_at}
use Rattle.jg_lists.specs.Acts.{how_many}
use Rattle.jg_words.specs.declared.reference.Ref.{Ref}
use Rattle.jg_words.specs.declared.reference.Ref.TheVariants.{To}
use Rattle.jg_words.specs.declared.reference.Kind.TheVariants.{Local}

-- a live local of a thread: its number and object, with the depth and the number of open frames just after its making
pub record LocalRow : Type 0 where
  pub tid : ℕ
  pub n : ℕ
  pub object : ℕ
  pub depth : ℕ
  pub frame : ℕ

-- the local as native code holds it
abbrev pub local_ref : LocalRow → Ref
local_ref row = To Local (record { 0 = row.tid }) row.n

-- an open frame of a thread: 0 for what an activation began with, and those pushed in it count from 1; and for how many
-- locals it has room
pub record FrameRow : Type 0 where
  pub tid : ℕ
  pub depth : ℕ
  pub frame : ℕ
  pub room : ℕ

-- the rows of locals and of frames, each thread's oldest first
pub record Rows : Type 0 where
  pub locals : List LocalRow
  pub frames : List FrameRow

-- for how many more rows of a thread there is room
pub record Room : Type 0 where
  pub locals : ℕ
  pub frames : ℕ

pub record Table : Type 0 where
  pub rows : Rows
  pub room : List (ℕ × Room)

abbrev pub room_or_none : Option Room → Room
room_or_none None = record { locals = 0; frames = 0 }
room_or_none (Some room) = room

-- the thread's room
abbrev pub room_of : List (ℕ × Room) → ℕ → Room
room_of rooms t = room_or_none (lookup (is_at (nat_cmp t)) rooms)

-- for how many more locals of the thread there is room
abbrev pub spare : Table → ℕ → ℕ
spare table t = (room_of table.room t).locals

-- for how many more base frames of the thread there is room
abbrev pub spare_starts : Table → ℕ → ℕ
spare_starts table t = (room_of table.room t).frames

-- the local was made in that frame
abbrev pub is_of_frame : FrameRow → LocalRow → Bool
is_of_frame f row = row.tid == f.tid && (row.depth == f.depth && row.frame == f.frame)

-- the frame's live locals are more than what is made of its room
abbrev pub is_past : (ℕ → ℕ) → List LocalRow → Option FrameRow → Bool
is_past bound locals None = false
is_past bound locals (Some f) = nat_lt (bound f.room) (how_many (is_of_frame f) locals)

-- the row is of the thread's local n
abbrev pub is_local : ℕ → ℕ → LocalRow → Bool
is_local t n row = row.tid == t && row.n == n

-- the thread's newest frame
abbrev pub top : ℕ → List FrameRow → Option FrameRow
top t frames = find (λ row. row.tid == t) (reverse frames)

-- whether the thread has a session, how many native methods it has entered and not left, and how many frames are pushed
-- in the newest
abbrev pub HasFrame : ℕ → Rows → Type 0
HasFrame t rows = IsSome (top t rows.frames)

abbrev pub frame_number : Option FrameRow → ℕ
frame_number None = 0
frame_number (Some row) = row.frame

abbrev pub depth_number : Option FrameRow → ℕ
depth_number None = 0
depth_number (Some row) = row.depth

abbrev pub pushed : ℕ → Rows → ℕ
pushed t rows = frame_number (top t rows.frames)

abbrev pub entered : ℕ → Rows → ℕ
entered t rows = depth_number (top t rows.frames)
