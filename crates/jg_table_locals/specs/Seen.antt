-- What contracts see of the stacks that the code keeps.
use Rattle.std.specs.Prelude.{◌≡◌, ◌≢◌, ℕ, ◌+◌, ◌-◌, ◌<◌, ◌^◌, length, slice_index_or, Bool, true, false, ◌==◌, ◌&&◌, ◌||◌, not, if◌then◌else◌, nat_lt, nat_le, List, [], ◌∷◌, ◌++◌, map, filter, Option, Some, None}
use Rattle.std.specs.Option.{option_or}
use Rattle.std.specs.List.{AllByRecursion, list_any}
use Rattle.std.specs.Map.{lookup}
use Rattle.std.specs.Ordering.{nat_cmp, ordering_then}
use Rattle.std.specs.declared.cmp.Ordering.{Ordering}
use Rattle.jg_lists.specs.Acts.{how_many}
use Rattle.jg_lists.specs.ByThread.{IsOnce}
use Rattle.std.specs.BTreeMap.{is_at}
use Rattle.jg_table_locals.specs.declared.row.LocalSlot.{LocalSlot}
use Rattle.jg_table_locals.specs.declared.row.Frame.{Frame}
use Rattle.jg_table_locals.specs.declared.row.Opened.{Opened}
use Rattle.jg_words.specs.declared.reference.Ref.{Ref}
use Rattle.jg_table_locals.specs.Rows.{LocalRow, FrameRow, Rows, Room, local_ref}

abbrev pub last : {X : Type 0} → List X → Option X
last [] = None
last (x ∷ xs) = option_or (last xs) (Some x)

-- each element stands in r to each later one
abbrev pub Chain : {X : Type 0} → (X → X → Bool) → List X → Type 0
Chain r [] = Unit {0}
Chain r (x ∷ xs) = AllByRecursion (λ y. r x y ≡ true) xs × Chain r xs

-- ---- one thread

abbrev pub is_live : LocalSlot → Bool
is_live s = s.live

-- how many of the slots are dead
abbrev pub dead_in : List LocalSlot → ℕ
dead_in slots = length (filter (λ s. not s.live) slots)

-- the slot, marked dead
abbrev pub ended : LocalSlot → LocalSlot
ended s = record s { live = false }

-- the object of a live slot; for a dead one a number at which there is no mark
abbrev pub named : LocalSlot → ℕ
named s = if s.live then s.object else 18446744073709551615

-- the local n stands at the place
abbrev pub IsPlaceOf : ℕ → List LocalSlot → ℕ → Type 0
IsPlaceOf n slots i = (i < length slots) × ((s : LocalSlot) → (slice_index_or slots i s).n ≡ n)

-- a thread's slots, and for how many more there is room
pub record SlotsSeen : Type 0 where
  pub items : List LocalSlot
  pub room : ℕ

-- the slot was made in the frame, in one below it, in that one or one below it
abbrev pub is_in : LocalSlot → Frame → Bool
is_in s f = s.depth == f.depth && s.frame == f.frame

abbrev pub is_below : LocalSlot → Frame → Bool
is_below s f = nat_lt s.depth f.depth || (s.depth == f.depth && nat_lt s.frame f.frame)

abbrev pub is_up_to : LocalSlot → Frame → Bool
is_up_to s f = nat_lt s.depth f.depth || (s.depth == f.depth && nat_le s.frame f.frame)

-- the slot has a lower number, and its frame is not above the other's
abbrev pub is_before : LocalSlot → LocalSlot → Bool
is_before s t = nat_lt s.n t.n && (nat_lt s.depth t.depth || (s.depth == t.depth && nat_le s.frame t.frame))

-- the frame was opened earlier
abbrev pub is_under : Frame → Frame → Bool
is_under f g = nat_lt f.depth g.depth || (f.depth == g.depth && nat_lt f.frame g.frame)

abbrev pub is_same_frame : Frame → Frame → Bool
is_same_frame f g = f.depth == g.depth && f.frame == g.frame

-- the slot is live, and where a frame is named, below it
abbrev pub stays : Option Frame → LocalSlot → Bool
stays None s = s.live
stays (Some f) s = s.live && is_below s f

abbrev pub IsBelowAll : Option Frame → List LocalSlot → Type 0
IsBelowAll None slots = Unit {0}
IsBelowAll (Some f) slots = AllByRecursion (λ s. is_below s f ≡ true) slots

abbrev pub passes : (LocalSlot → Bool) → Option LocalSlot → Bool
passes p None = true
passes p (Some s) = p s

-- the slots ascend, by number and by frame, and each is of one of the frames
pub record Sound (slots : List LocalSlot) (frames : List Frame) : Type 0 where
  pub rises : Chain is_before slots
  pub inside : AllByRecursion (λ s. list_any (is_in s) frames ≡ true) slots

-- and the frames ascend, and the newest slot is live
pub record Kept (slots : List LocalSlot) (frames : List Frame) : Type 0 where
  pub sound : Sound slots frames
  pub opened : Chain is_under frames
  pub ends : passes is_live (last slots) ≡ true

-- ---- the frames as the code keeps them, each with its count

abbrev pub frame_of : Opened → Frame
frame_of o = o.frame

-- the frame of that depth and number
abbrev pub is_frame : ℕ → ℕ → Frame → Bool
is_frame d k f = f.depth == d && f.frame == k

abbrev pub is_opened_under : Opened → Opened → Bool
is_opened_under o p = is_under o.frame p.frame

-- before, at or after the frame of that depth and number
abbrev pub frame_cmp : ℕ → ℕ → Frame → Ordering
frame_cmp d k f = ordering_then (nat_cmp f.depth d) (nat_cmp f.frame k)

-- with a change at one frame
abbrev pub at_frame : (Opened → Opened) → ℕ → ℕ → Opened → Opened
at_frame g d k o = if is_frame d k o.frame then g o else o

abbrev pub one_more : Opened → Opened
one_more o = record o { held = o.held + 1 }

abbrev pub one_less : Opened → Opened
one_less o = record o { held = o.held - 1 }

abbrev pub counted_less : Option LocalSlot → List Opened → List Opened
counted_less None os = os
counted_less (Some s) os = map (at_frame one_less s.depth s.frame) os

abbrev pub with_room : ℕ → Opened → Opened
with_room room o = record o { frame = record o.frame { room = room } }

-- the frame itself, with another room at one
abbrev pub room_set : ℕ → ℕ → ℕ → Frame → Frame
room_set room d k f = if is_frame d k f then record f { room = room } else f

-- each frame's count is that of the live slots made in it
abbrev pub Counted : List LocalSlot → List Opened → Type 0
Counted live opened = AllByRecursion (λ o. o.held ≡ how_many (λ s. is_in s o.frame) live) opened

-- what a thread's stack keeps
pub record Stacked (slots : List LocalSlot) (opened : List Opened) : Type 0 where
  pub kept : Kept slots (map frame_of opened)
  pub counted : Counted (filter is_live slots) opened

-- how many of the locals were made in the frame
abbrev pub held_in : Option Frame → List LocalSlot → ℕ
held_in None live = 0
held_in (Some f) live = how_many (λ s. is_in s f) live

-- what is made of the frame's room is less
abbrev pub is_full : (ℕ → ℕ) → Option Frame → ℕ → Bool
is_full bound None n = false
is_full bound (Some f) n = nat_lt (bound f.room) n

-- the live locals and the open frames of one thread, oldest first, with its room
pub record StackRows : Type 0 where
  pub locals : List LocalSlot
  pub frames : List Frame
  pub room : Room

abbrev pub slot_made : ℕ → ℕ → Frame → LocalSlot
slot_made n o f = record { n = n; object = o; depth = f.depth; frame = f.frame; live = true }

-- the frame may be opened above the newest
abbrev pub IsNext : Option Frame → Frame → Type 0
IsNext None f = Unit {0}
IsNext (Some g) f = is_under g f ≡ true

abbrev pub is_from : Frame → Option Frame → Bool
is_from g None = false
is_from g (Some f) = not (is_under f g)

-- ---- all threads

abbrev pub slots_in : Option StackRows → List LocalSlot
slots_in None = []
slots_in (Some v) = v.locals

abbrev pub frames_in : Option StackRows → List Frame
frames_in None = []
frames_in (Some v) = v.frames

abbrev pub room_in : Option StackRows → Room
room_in None = record { locals = 0; frames = 0 }
room_in (Some v) = v.room

abbrev pub stack_at : ℕ → List (ℕ × StackRows) → Option StackRows
stack_at t es = lookup (is_at (nat_cmp t)) es

abbrev pub local_row : ℕ → LocalSlot → LocalRow
local_row t s = record { tid = t; n = s.n; object = s.object; depth = s.depth; frame = s.frame }

abbrev pub slot_ref : ℕ → LocalSlot → Ref
slot_ref t s = local_ref (local_row t s)

abbrev pub frame_row : ℕ → Frame → FrameRow
frame_row t f = record { tid = t; depth = f.depth; frame = f.frame; room = f.room }

-- what f gives of each entry, one after the other
abbrev pub gather : {V X : Type 0} → (ℕ → V → List X) → List (ℕ × V) → List X
gather f [] = []
gather f (e ∷ es) = f e.0 e.1 ++ gather f es

abbrev pub locals_of : ℕ → StackRows → List LocalRow
locals_of t v = map (local_row t) v.locals

abbrev pub frames_of : ℕ → StackRows → List FrameRow
frames_of t v = map (frame_row t) v.frames

abbrev pub rows_seen : List (ℕ × StackRows) → Rows
rows_seen es = record { locals = gather locals_of es; frames = gather frames_of es }

abbrev pub rooms_seen : List (ℕ × StackRows) → List (ℕ × Room)
rooms_seen es = map (λ e. (e.0, e.1.room)) es

abbrev pub room_seen : List (ℕ × StackRows) → ℕ → Room
room_seen es t = room_in (stack_at t es)

-- the thread's stack now has these locals and frames, and the other stacks are as they were
pub record Changes (u : ℕ) (old new : List (ℕ × StackRows)) (slots : List LocalSlot) (opened : List Frame)
    : Type 0 where
  pub locals : slots_in (stack_at u new) ≡ slots
  pub frames : frames_in (stack_at u new) ≡ opened
  pub others : (t : ℕ) → t ≢ u → stack_at t new ≡ stack_at t old

-- no thread has more locals than a `Vec` holds
abbrev pub AreFew : List (ℕ × StackRows) → Type 0
AreFew es = AllByRecursion (λ e. length e.1.locals < 2 ^ 63) es

-- so many locals were made, and so many ended
pub record Counts (made ended : ℕ) (old new : List (ℕ × StackRows)) : Type 0 where
  pub all : length (rows_seen old).locals + made ≡ length (rows_seen new).locals + ended
  pub few : AreFew old → AreFew new

-- the count is that of the locals of all threads, each of which is there once
pub record Tallied (stacks : List (ℕ × StackRows)) (live : ℕ) : Type 0 where
  pub once : IsOnce stacks
  pub all : live ≡ length (rows_seen stacks).locals
  pub few : AreFew stacks
