-- Sessions, native methods, exceptions and numbers of threads, told by looking back over what threads did.
-- A list has the newest first. JNI Specification, chapter 5 (attachment), chapter 2 ("Exceptions and Error Codes").
-- A thread that has no session enters and leaves nothing, has nothing raised and is handed out nothing: no table stands
-- for a list in which it does (Standing). For such a list alone `depth` and `pending` count what was done before the
-- session.
use Rattle.jg_lists.specs.Acts as acts
pub use Rattle.jg_lists.specs.Acts.{by, acts_of, how_many}
use Rattle.std.specs.Prelude.{ℕ, ◌+◌, ◌-◌, Bool, true, false, ◌==◌, if◌then◌else◌, List, [], ◌∷◌, Option, Some, None}
use Rattle.std.specs.List.{list_any}

-- what a thread did: attached or detached itself, entered or left a native method, had an exception raised or calmed,
-- was handed out a reference or a buffer
pub data Act : Type 0 where
  Attach : Act
  Detach : Act
  Enter : Act
  Leave : Act
  Raise : (object : ℕ) → Act
  Calm : Act
  CountRef : Act
  CountBuffer : Act

-- an act, with the thread that did it
abbrev pub Event : Type 0
Event = acts.Event Act

abbrev pub is_attach : Act → Bool
is_attach Attach = true
is_attach a = false

abbrev pub is_enter : Act → Bool
is_enter Enter = true
is_enter a = false

abbrev pub is_leave : Act → Bool
is_leave Leave = true
is_leave a = false

abbrev pub is_count_ref : Act → Bool
is_count_ref CountRef = true
is_count_ref a = false

abbrev pub is_count_buffer : Act → Bool
is_count_buffer CountBuffer = true
is_count_buffer a = false

-- the acts since the thread's last detachment
abbrev pub since : List Act → List Act
since [] = []
since (Detach ∷ acts) = []
since (a ∷ acts) = a ∷ since acts

-- it was attached since
abbrev pub attached : List Act → Bool
attached acts = list_any is_attach (since acts)

-- it was ever attached
abbrev pub was_attached : List Act → Bool
was_attached acts = list_any is_attach acts

-- how many attachments found it unattached
abbrev pub sessions : List Act → ℕ
sessions [] = 0
sessions (Attach ∷ acts) = if attached acts then sessions acts else sessions acts + 1
sessions (a ∷ acts) = sessions acts

-- the number of the present session
abbrev pub session : List Act → Option ℕ
session acts = if attached acts then Some (sessions acts) else None

-- native methods entered in the session and not left
abbrev pub depth : List Act → ℕ
depth acts = how_many is_enter (since acts) - how_many is_leave (since acts)

-- the exception raised last, if nothing calmed it since
abbrev last_raised : List Act → Option ℕ
last_raised [] = None
last_raised (Raise o ∷ acts) = Some o
last_raised (Calm ∷ acts) = None
last_raised (a ∷ acts) = last_raised acts

-- the exception that is pending in the session
abbrev pub pending : List Act → Option ℕ
pending acts = last_raised (since acts)

-- how many references and buffers it was handed out, over all its sessions
abbrev pub refs : List Act → ℕ
refs acts = how_many is_count_ref acts

abbrev pub buffers : List Act → ℕ
buffers acts = how_many is_count_buffer acts

abbrev pub is_object : ℕ → Option ℕ → Bool
is_object o None = false
is_object o (Some p) = p == o

-- the object is pending for some thread
abbrev pub is_pending : List Event → ℕ → Bool
is_pending e o = list_any (λ ev. is_object o (pending (acts_of ev.tid e))) e
