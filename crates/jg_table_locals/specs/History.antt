-- Local references and frames, told by looking back over what threads did. A list has the newest first.
-- JNI Specification, chapter 2, "Local References": valid in the thread that made them, freed when the native method
-- returns; chapter 4, PushLocalFrame and PopLocalFrame.
-- Locals are made, and frames pushed, in a session alone: no table stands for a list in which they are made outside of
-- one (Standing). For such a list alone a local made before the session is live until the session begins.
use Rattle.jg_lists.specs.Acts as acts
pub use Rattle.jg_lists.specs.Acts.{by, acts_of, how_many}
use Rattle.std.specs.Prelude.{◌≡◌, ℕ, ◌+◌, ◌-◌, ◌<◌, Bool, true, false, ◌==◌, ◌&&◌, not, nat_le, if◌then◌else◌, List, [], ◌∷◌, Option, Some, None}
use Rattle.std.specs.List.{list_any}
use Rattle.jg_words.specs.declared.reference.Ref.{Ref}
use Rattle.jg_words.specs.declared.reference.Ref.TheVariants.{Null, To}
use Rattle.jg_words.specs.declared.reference.Kind.TheVariants.{Local as LocalKind, Global, Weak}

-- what a thread did: began or ended a session, was handed local n for an object, pushed a frame with room for so many
-- locals, asked for room for so many more, entered or left a native method, deleted local n, popped a frame
pub data Act : Type 0 where
  Start : Act
  Make : (n : ℕ) → (object : ℕ) → Act
  Push : (room : ℕ) → Act
  Ensure : (capacity : ℕ) → Act
  Enter : Act
  Delete : (n : ℕ) → Act
  Pop : Act
  Leave : Act
  End : Act

-- an act, with the thread that did it
abbrev pub Event : Type 0
Event = acts.Event Act

abbrev pub is_enter : Act → Bool
is_enter Enter = true
is_enter a = false

abbrev pub is_leave : Act → Bool
is_leave Leave = true
is_leave a = false

abbrev pub is_push : Act → Bool
is_push (Push room) = true
is_push a = false

abbrev pub is_pop : Act → Bool
is_pop Pop = true
is_pop a = false

-- the acts since the thread's session began, which are none where it has no session
abbrev pub session : List Act → List Act
session [] = []
session (Start ∷ acts) = []
session (End ∷ acts) = []
session (a ∷ acts) = a ∷ session acts

abbrev pub has_session : List Act → Bool
has_session [] = false
has_session (Start ∷ acts) = true
has_session (End ∷ acts) = false
has_session (a ∷ acts) = has_session acts

-- the native methods entered in the session and not left
abbrev pub depth : List Act → ℕ
depth acts = how_many is_enter (session acts) - how_many is_leave (session acts)

-- the act begins an activation of that depth, or it begins or ends the session
abbrev pub begins : ℕ → Act → List Act → Bool
begins d Enter acts = depth acts + 1 == d
begins d Start acts = true
begins d End acts = true
begins d a acts = false

-- how many acts of the kind were done at the depth, since the latest activation of that depth began
abbrev pub done_at : (Act → Bool) → ℕ → List Act → ℕ
done_at kind d [] = 0
done_at kind d (a ∷ acts) =
    if begins d a acts then 0 else (if kind a && (depth acts == d) then done_at kind d acts + 1
    else done_at kind d acts)

-- the frames that are pushed and not popped at the depth
abbrev pub frames : ℕ → List Act → ℕ
frames d acts = done_at is_push d acts - done_at is_pop d acts

-- the making of a local: what came later, its object, and what came before
pub record Making : Type 0 where
  pub later : List Act
  pub object : ℕ
  pub before : List Act

-- the same making, seen from one act later
abbrev pub seen_after : Act → Option Making → Option Making
seen_after a None = None
seen_after a (Some m) = Some (record m { later = a ∷ m.later })

-- the latest making of local n
abbrev pub making : ℕ → List Act → Option Making
making n [] = None
making n (Make m o ∷ acts) =
    if m == n then Some (record { later = []; object = o; before = acts }) else seen_after (Make m o) (making n acts)
making n (a ∷ acts) = seen_after a (making n acts)

-- how many acts of the kind were done in the activation that the list begins in, outside those entered later
abbrev pub done_here : (Act → Bool) → List Act → ℕ
done_here kind [] = 0
done_here kind (a ∷ later) =
    if kind a && (how_many is_enter later == how_many is_leave later) then done_here kind later + 1
    else done_here kind later

-- the act ends local n by name, or ends the session
abbrev pub ends : ℕ → Act → Bool
ends n (Delete m) = m == n
ends n Start = true
ends n End = true
ends n a = false

-- no moment since the making of local n saw it deleted, the session ended, its activation left, or its frame popped
abbrev pub survives : ℕ → List Act → Bool
survives n [] = true
survives n (a ∷ later) =
    (survives n later && not (ends n a))
    && (nat_le (how_many is_leave (a ∷ later)) (how_many is_enter (a ∷ later))
    && nat_le (done_here is_pop (a ∷ later)) (done_here is_push (a ∷ later)))

-- a local's number and object, the depth and the number of open frames just after its making
pub record Local : Type 0 where
  pub n : ℕ
  pub object : ℕ
  pub depth : ℕ
  pub frame : ℕ

abbrev pub local_if_live : ℕ → Option Making → Option Local
local_if_live n None = None
local_if_live n (Some m) =
    if survives n m.later
    then Some (record { n = n; object = m.object; depth = depth m.before; frame = frames (depth m.before) m.before })
    else None

-- the local n, where it is live
abbrev pub live_local : ℕ → List Act → Option Local
live_local n acts = local_if_live n (making n acts)

-- the object that local n names, where it is live
abbrev pub object_of : Option Local → Option ℕ
object_of None = None
object_of (Some l) = Some l.object

abbrev pub live : ℕ → List Act → Option ℕ
live n acts = object_of (live_local n acts)

abbrev pub is_object : ℕ → Option ℕ → Bool
is_object o None = false
is_object o (Some p) = p == o

-- the act made a local that is live now, for the object
abbrev pub makes_live : ℕ → List Act → Act → Bool
makes_live o acts (Make n p) = is_object o (live n acts)
makes_live o acts a = false

-- some thread has a live local of the object
abbrev pub holds_object : List Event → ℕ → Bool
holds_object e o = list_any (λ ev. makes_live o (acts_of ev.tid e) ev.act) e

-- the reference is a thread's live local that names the object
abbrev pub Holds : List Event → ℕ → Ref → Type 0
Holds e o Null = ⊥
Holds e o (To LocalKind maker n) = live n (acts_of maker.0 e) ≡ Some o
Holds e o (To Global maker n) = ⊥
Holds e o (To Weak maker n) = ⊥

-- the number is above each that was given to a local
abbrev pub IsMadeBelow : ℕ → List Act → Type 0
IsMadeBelow n [] = Unit {0}
IsMadeBelow n (Make k o ∷ acts) = (k < n) × IsMadeBelow n acts
IsMadeBelow n (a ∷ acts) = IsMadeBelow n acts
