-- What the definitions mean, in the words of the list, and what rows that stand tell of it.
use Rattle.std.specs.Prelude.{◌≡◌, ◌≢◌, ◌⊎◌, ◌↔◌, ◌<◌, ◌+◌, ◌==◌, ◌&&◌, if◌then◌else◌, ℕ, Bool, true, false, List, [], ◌∷◌, ◌++◌, Option, Some, None, IsTrue, All, map}
use Rattle.std.specs.List.{list_any}
use Rattle.std.specs.Option.{is_some}
use Rattle.jg_lists.specs.Acts.{Moment, moments}
use Rattle.jg_table_locals.specs.History.{Act, Make, Delete, Pop, Leave, Event, acts_of, is_enter, is_leave, is_push, is_pop, how_many, has_session, depth, begins, frames, done_here, ends, live, holds_object, IsMadeBelow}
use Rattle.jg_table_locals.specs.Room.{opened_with, asked, greater, frame_room}
use Rattle.jg_table_locals.specs.Rows.{FrameRow, Rows, top, HasFrame, pushed, entered}
use Rattle.jg_table_locals.specs.Standing.{AllAllowed, row_of_frame, Stands}

-- the act ends local n, where `since` was done between the making of n and the act: it deletes n or ends the session;
-- or with it more activations were left than entered; or, in the activation of the making, more frames popped than
-- pushed
abbrev pub IsEndedBy : ℕ → Act → List Act → Type 0
IsEndedBy n a since =
    (ends n a ≡ true)
    ⊎ (how_many is_enter (a ∷ since) < how_many is_leave (a ∷ since))
    ⊎ (done_here is_push (a ∷ since) < done_here is_pop (a ∷ since))

-- no later act ended it
abbrev pub IsNotEnded : ℕ → List Act → Type 0
IsNotEnded n later = (newer since : List Act) (a : Act) → later ≡ newer ++ a ∷ since → ¬ IsEndedBy n a since

-- none of the acts made the number
abbrev pub IsNotMade : ℕ → List Act → Type 0
IsNotMade n [] = Unit {0}
IsNotMade n (Make k o ∷ acts) = (k ≢ n) × IsNotMade n acts
IsNotMade n (a ∷ acts) = IsNotMade n acts

-- the local was made for the object, not made again later, and no later act ended it
abbrev pub IsMadeAndKept : ℕ → ℕ → List Act → Type 0
IsMadeAndKept n o acts = (later : List Act) × (before : List Act) × (acts ≡ later ++ Make n o ∷ before)
    × IsNotMade n later × IsNotEnded n later

-- a local is live exactly where it was made, and nothing since has made it again or ended it
-- (proofs/Lives.antt)
abbrev pub LiveMeans : Type 0
LiveMeans = (n o : ℕ) (acts : List Act) → (live n acts ≡ Some o) ↔ IsMadeAndKept n o acts

-- left: a leave ends a local that nothing ended before exactly where the thread is then less deep than at the making
-- (JNI Specification, chapter 2, "Global and Local References": freed when the native method returns)
-- (proofs/Lives.antt)
abbrev pub LeftMeans : Type 0
LeftMeans = (n o : ℕ) (since before : List Act) → AllAllowed (Leave ∷ (since ++ Make n o ∷ before)) → IsNotEnded n since
    → IsEndedBy n Leave since ↔ (depth (Leave ∷ (since ++ Make n o ∷ before)) < depth before)

-- popped: a pop ends a local that nothing ended before exactly where, at the depth of the making, fewer frames are then
-- open than at the making (JNI Specification, chapter 4, PopLocalFrame)
-- (proofs/Lives.antt)
abbrev pub PoppedMeans : Type 0
PoppedMeans = (n o : ℕ) (since before : List Act) → AllAllowed (Pop ∷ (since ++ Make n o ∷ before)) → IsNotEnded n since
    → IsEndedBy n Pop since ↔ (frames (depth before) (Pop ∷ (since ++ Make n o ∷ before))
    < frames (depth before) before)

-- the moment is of that kind and at that depth
abbrev pub is_at_depth : (Act → Bool) → ℕ → Moment Act → Bool
is_at_depth kind d m = kind m.act && (depth m.before == d)

-- the moment begins an activation of that depth, or begins or ends the session
abbrev pub begins_at : ℕ → Moment Act → Bool
begins_at d m = begins d m.act m.before

-- open frames: since the latest activation of the depth began, those and the pops at the depth are the pushes at it
-- (JNI Specification, chapter 4, PushLocalFrame and PopLocalFrame)
-- (proofs/OpenFrames.antt)
abbrev pub OpenFramesMean : Type 0
OpenFramesMean = (d : ℕ) (later before : List Act) (a : Act) → AllAllowed (later ++ a ∷ before)
    → begins d a before ≡ true → list_any (begins_at d) (moments later (a ∷ before)) ≡ false
    → frames d (later ++ a ∷ before) + how_many (is_at_depth is_pop d) (moments later (a ∷ before))
    ≡ how_many (is_at_depth is_push d) (moments later (a ∷ before))

-- the moment opens the frame
abbrev pub opens_at : ℕ → ℕ → Moment Act → Bool
opens_at d k m = is_some (opened_with d k m.act m.before)

-- the greatest of the number and the list's
abbrev pub greatest : ℕ → List ℕ → ℕ
greatest n [] = n
greatest n (m ∷ ms) = greater (greatest n ms) m

-- room: since the act that opened the frame, the greatest of what it was opened with and of what was asked for in it
-- (JNI Specification, chapter 4, PushLocalFrame and EnsureLocalCapacity)
-- (proofs/Rooms.antt)
abbrev pub RoomMeans : Type 0
RoomMeans = (d k room : ℕ) (later before : List Act) (a : Act) → opened_with d k a before ≡ Some room
    → list_any (opens_at d k) (moments later (a ∷ before)) ≡ false
    → frame_room d k (later ++ a ∷ before)
    ≡ greatest room (map (λ m. asked d k m.act m.before) (moments later (a ∷ before)))

-- what was deleted, and not made again, is not live
-- (proofs/Lives.antt)
abbrev pub DeletedStaysDead : Type 0
DeletedStaysDead = (n : ℕ) (later before : List Act) → IsNotMade n later → live n (later ++ Delete n ∷ before) ≡ None

-- held by some thread's live local
-- (proofs/Held.antt)
abbrev pub HeldMeans : Type 0
HeldMeans = (e : List Event) (o : ℕ) → IsTrue (holds_object e o) ↔ ((t : ℕ) × (n : ℕ) × (live n (acts_of t e) ≡ Some o))

-- ---- what rows that stand tell

-- a thread with a session has a frame
-- (proofs/Callers.antt)
abbrev pub SessionHasFrame : Type 0
SessionHasFrame = (rows : Rows) (e : List Event) (t : ℕ) → Stands rows e → has_session (acts_of t e) ≡ true
    → HasFrame t rows

-- the newest frame, where the thread has a session: its depth, the frames pushed there, and its room
abbrev pub top_of_acts : ℕ → List Act → Option FrameRow
top_of_acts t acts =
    if has_session acts then Some (row_of_frame t (depth acts) (frames (depth acts) acts) acts) else None

-- (proofs/Callers.antt)
abbrev pub TopMeans : Type 0
TopMeans = (rows : Rows) (e : List Event) (t : ℕ) → Stands rows e → top t rows.frames ≡ top_of_acts t (acts_of t e)

-- the frames pushed in the newest activation
-- (proofs/Callers.antt)
abbrev pub PushedMeans : Type 0
PushedMeans = (rows : Rows) (e : List Event) (t : ℕ) → Stands rows e
    → pushed t rows ≡ frames (depth (acts_of t e)) (acts_of t e)

-- and in how many native methods the thread is
-- (proofs/Callers.antt)
abbrev pub EnteredMeans : Type 0
EnteredMeans = (rows : Rows) (e : List Event) (t : ℕ) → Stands rows e → entered t rows ≡ depth (acts_of t e)

-- a number above all that the acts gave the thread's locals is above all of its rows, as a making asks
-- (proofs/Callers.antt)
abbrev pub NewNumberIsAbove : Type 0
NewNumberIsAbove = (rows : Rows) (e : List Event) (t n : ℕ) → Stands rows e → IsMadeBelow n (acts_of t e)
    → All (λ row. row.tid ≡ t → row.n < n) rows.locals

-- and above each live local
-- (proofs/Callers.antt)
abbrev pub LiveIsBelow : Type 0
LiveIsBelow = (n k o : ℕ) (acts : List Act) → IsMadeBelow n acts → live k acts ≡ Some o → k < n
