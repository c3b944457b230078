-- What it is for an entry to touch an object: its call names the object, writes into it, opens a critical buffer of
-- it, or uses one that is open. The items of a copy are its own, so to read or write a copy touches nothing; its
-- release names the object by an operand, and writes into it where it copies back. A collection touches nothing, and
-- neither does DetachCurrentThread, though it releases monitors: the two take no references, write no slot, and open
-- and use no buffer. GetObjectRefType, which takes any reference, dead or alive, touches nothing either.
use Rattle.std.specs.Prelude.{ℕ, ◌≡◌, ◌⊎◌, true, List, Any, Option, Some, None}
use Rattle.jg_words.specs.declared.buffer.BufId.{BufId}
use Rattle.jg_words.specs.declared.value.Value.{Value}
use Rattle.jg_words.specs.declared.entry.Reply.{Reply}
use Rattle.jg_words.specs.declared.entry.Outcome.TheVariants.{Passed}
use Rattle.jg_words.specs.Entry.{Entry}
use Rattle.jg_words.specs.declared.call.Call.{Call}
use Rattle.jg_words.specs.declared.call.Call.TheVariants.{Vm, Refs, Frames, Exceptions, Objects, Strings, Arrays, Monitors, Buffers}
use Rattle.jg_words.specs.declared.call.buffers.BuffersCall.{BuffersCall}
use Rattle.jg_words.specs.declared.call.buffers.BuffersCall.TheVariants.{GetArrayElements, ReleaseArrayElements, GetStringChars, ReleaseStringChars, GetStringUTFChars, ReleaseStringUTFChars, GetPrimitiveArrayCritical, ReleasePrimitiveArrayCritical, GetStringCritical, ReleaseStringCritical, BufferRead, BufferWrite}
use Rattle.jg_policy.specs.Stated.{StatedSetup}
use Rattle.jg_table_heap.specs.History as heap
use Rattle.jg_table_buffers.specs.History as buffers
use Rattle.jg_rules.specs.Parts.{Parts}
use Rattle.jg_rules.specs.Names.{object_named}
use Rattle.jg_rules.specs.Operands.{operands}
use Rattle.jg_rules.specs.Effects.{parts, call_heap, call_buffers, is_effective, if_effective}

-- an operand of t's call names the object: it is live for t (JNI Specification, chapter 2, "Global and Local
-- References")
abbrev pub NamesObject : Parts → ℕ → Call → ℕ → Type 0
NamesObject p t call o = Any (λ x. object_named p t x.reference ≡ Some o) (operands call)

-- the event writes a slot of the object
abbrev pub WritesSlotOf : ℕ → heap.Event → Type 0
WritesSlotOf o (heap.Made m) = ⊥
WritesSlotOf o (heap.Wrote p j v) = p ≡ o
WritesSlotOf o (heap.Collected roots) = ⊥
WritesSlotOf o (heap.Went p) = ⊥

-- the call writes a slot of the object, which is a field or an item: itself, by a release that copies back, or through
-- a critical buffer (JNI Specification, chapter 4, "Accessing Fields of Objects", "Array Operations"). A call that
-- threw writes nothing
abbrev WritesObject : StatedSetup → Parts → ℕ → Call → Value → ℕ → Type 0
WritesObject s p t call value o = Any (WritesSlotOf o) (if_effective (is_effective value) (call_heap s p t call))

-- the buffer is a critical one of the object: its items are the object's (JNI Specification, chapter 4,
-- GetPrimitiveArrayCritical, GetStringCritical)
abbrev pub IsPinOf : ℕ → buffers.Buffer → Type 0
IsPinOf o b = (buffers.is_critical b.family ≡ true) × (b.object ≡ o)

-- the event opens a critical buffer of the object
abbrev pub OpensPinOf : ℕ → buffers.Event → Type 0
OpensPinOf o (buffers.Opened b) = IsPinOf o b
OpensPinOf o (buffers.Wrote maker n index v) = ⊥
OpensPinOf o (buffers.Closed maker n) = ⊥
OpensPinOf o (buffers.ReleaseAll maker) = ⊥

-- the call opens a critical buffer of the object
abbrev PinsObject : StatedSetup → Parts → ℕ → Call → Value → ℕ → Type 0
PinsObject s p t call value o = Any (OpensPinOf o) (if_effective (is_effective value) (call_buffers s p t call))

-- the buffer that a call releases, reads or writes
abbrev buffers_used : BuffersCall → Option BufId
buffers_used (GetArrayElements element r) = None
buffers_used (ReleaseArrayElements element r b mode) = Some b
buffers_used (GetStringChars r) = None
buffers_used (ReleaseStringChars r b) = Some b
buffers_used (GetStringUTFChars r) = None
buffers_used (ReleaseStringUTFChars r b) = Some b
buffers_used (GetPrimitiveArrayCritical r) = None
buffers_used (ReleasePrimitiveArrayCritical r b mode) = Some b
buffers_used (GetStringCritical r) = None
buffers_used (ReleaseStringCritical r b) = Some b
buffers_used (BufferRead b index) = Some b
buffers_used (BufferWrite b index value) = Some b

abbrev pub buffer_used : Call → Option BufId
buffer_used (Vm call) = None
buffer_used (Refs call) = None
buffer_used (Frames call) = None
buffer_used (Exceptions call) = None
buffer_used (Objects call) = None
buffer_used (Strings call) = None
buffer_used (Arrays call) = None
buffer_used (Monitors call) = None
buffer_used (Buffers call) = buffers_used call

-- the call releases, reads or writes a critical buffer of the object that is open
pub record UsesPin (p : Parts) (call : Call) (o : ℕ) : Type 0 where
  pub id : BufId
  pub buffer : buffers.Buffer
  pub used : buffer_used call ≡ Some id
  pub is_open : buffers.opened p.buffers id.maker.0 id.n ≡ Some buffer
  pub is_pin : IsPinOf o buffer

-- t's call, which passed and answered the value, touches the object
abbrev pub TouchesAt : StatedSetup → Parts → ℕ → Call → Value → ℕ → Type 0
TouchesAt s p t call value o =
    NamesObject p t call o ⊎ WritesObject s p t call value o ⊎ PinsObject s p t call value o ⊎ UsesPin p call o

-- the entry, after the history before it, touches the object: a denied one touches nothing
pub record Touches (s : StatedSetup) (before : List Entry) (x : Entry) (o : ℕ) : Type 0 where
  pub reply : Reply
  pub passed : x.outcome ≡ Passed reply
  pub touching : TouchesAt s (parts s before) x.tid.0 x.call reply.value o
