-- How many local references a frame holds, and for how many it has room.
-- JNI Specification, chapter 4, "Local References": a native method may make 16 of them; PushLocalFrame opens a frame
-- for at least as many as it names; EnsureLocalCapacity asks the present frame for so many more. What lies beyond the
-- room is made too, and told of.
-- A frame is named by its depth d and by how many frames are pushed at that depth up to it, k.
use Rattle.std.specs.Prelude.{ℕ, ◌+◌, ◌*◌, Bool, true, false, ◌==◌, ◌&&◌, not, nat_lt, if◌then◌else◌, List, [], ◌∷◌, filter, Option, Some, None}
use Rattle.jg_table_locals.specs.History.{Act, Start, Make, Push, Ensure, Enter, how_many, depth, frames, Local, live_local}

-- the numbers that the thread's locals were given, each once
abbrev pub numbers : List Act → List ℕ
numbers [] = []
numbers (Make n o ∷ acts) = n ∷ filter (λ m. not (m == n)) (numbers acts)
numbers (a ∷ acts) = numbers acts

-- the local was made in the frame
abbrev pub is_made_in : ℕ → ℕ → Option Local → Bool
is_made_in d k None = false
is_made_in d k (Some l) = l.depth == d && l.frame == k

-- how many live locals were made in the frame
abbrev pub held : ℕ → ℕ → List Act → ℕ
held d k acts = how_many (λ n. is_made_in d k (live_local n acts)) (numbers acts)

-- the locals that native code is promised room for
abbrev pub promised : ℕ
promised = 16

abbrev pub only_if : Bool → ℕ → Option ℕ
only_if true room = Some room
only_if false room = None

-- the room that the act opens the frame with; none where it doesn't open it. An act opens a frame where that is the
-- present one just after it, and the one just before it was lower
abbrev pub opened_with : ℕ → ℕ → Act → List Act → Option ℕ
opened_with d k Start acts = only_if (d == 0 && k == 0) promised
opened_with d k Enter acts = only_if (depth acts + 1 == d && k == 0) promised
opened_with d k (Push room) acts = only_if (depth acts == d && frames d acts + 1 == k) room
opened_with d k a acts = None

-- an EnsureLocalCapacity made in the frame asks for room beside what the frame held just before it
abbrev pub asked : ℕ → ℕ → Act → List Act → ℕ
asked d k (Ensure c) acts = if depth acts == d && frames d acts == k then c + held d k acts else 0
asked d k a acts = 0

abbrev pub greater : ℕ → ℕ → ℕ
greater a b = if nat_lt a b then b else a

abbrev pub if_opened : Option ℕ → ℕ → ℕ
if_opened None before = before
if_opened (Some room) before = room

-- the frame's room: what it was opened with, or the most that was asked for in it since
abbrev pub frame_room : ℕ → ℕ → List Act → ℕ
frame_room d k [] = 0
frame_room d k (a ∷ acts) = if_opened (opened_with d k a acts) (greater (frame_room d k acts) (asked d k a acts))

-- how many live locals the thread's present frame holds, and its room
abbrev pub held_here : List Act → ℕ
held_here acts = held (depth acts) (frames (depth acts) acts) acts

abbrev pub room_here : List Act → ℕ
room_here acts = frame_room (depth acts) (frames (depth acts) acts) acts

-- the present frame holds more than it has room for
abbrev pub crowded : List Act → Bool
crowded acts = nat_lt (room_here acts) (held_here acts)

-- it holds more than ten times what it has room for
abbrev pub outgrown : List Act → Bool
outgrown acts = nat_lt (10 * room_here acts) (held_here acts)
