-- The facts that the entries of a history are: what a virtual machine would have told that answered so. A list of facts
-- has the newest first, as a history has.
use Rattle.std.specs.Prelude.{ℕ, Bool, true, false, List, [], ◌∷◌, ◌++◌, Option, Some, None}
use Rattle.jg_words.specs.declared.thread.Tid.{Tid}
use Rattle.jg_words.specs.declared.object.ObjId.{ObjId}
use Rattle.jg_words.specs.declared.reference.Ref.{Ref}
use Rattle.jg_words.specs.declared.reference.Ref.TheVariants.{Null, To}
use Rattle.jg_words.specs.declared.value.Value.{Value}
use Rattle.jg_words.specs.declared.value.Value.TheVariants.{Ok as Done, Reference, Throw as Threw}
use Rattle.jg_words.specs.declared.entry.Reply.{Reply}
use Rattle.jg_words.specs.declared.entry.Outcome.{Outcome}
use Rattle.jg_words.specs.declared.entry.Outcome.TheVariants.{Passed, Denied}
use Rattle.jg_words.specs.Entry.{Entry}
use Rattle.jg_words.specs.declared.call.Call.{Call}
use Rattle.jg_words.specs.declared.call.Call.TheVariants.{Vm, Refs, Frames, Exceptions, Objects, Strings, Arrays, Monitors, Buffers}
use Rattle.jg_words.specs.declared.call.vm.VmCall.{VmCall}
use Rattle.jg_words.specs.declared.call.vm.VmCall.TheVariants.{AttachCurrentThread, DetachCurrentThread, GetEnv, NativeEnter, NativeLeave, LoadLibrary, RegisterNatives, UnregisterNatives, Collect}
use Rattle.jg_words.specs.declared.call.refs.RefsCall.{RefsCall}
use Rattle.jg_words.specs.declared.call.refs.RefsCall.TheVariants.{NewLocalRef, NewGlobalRef, NewWeakGlobalRef, DeleteLocalRef, DeleteGlobalRef, DeleteWeakGlobalRef, IsSameObject, GetObjectRefType}
use Rattle.jg_words.specs.declared.call.frames.FramesCall.{FramesCall}
use Rattle.jg_words.specs.declared.call.frames.FramesCall.TheVariants.{PushLocalFrame, PopLocalFrame, EnsureLocalCapacity}
use Rattle.jg_words.specs.declared.call.exceptions.ExceptionsCall.{ExceptionsCall}
use Rattle.jg_words.specs.declared.call.exceptions.ExceptionsCall.TheVariants.{Throw, ExceptionOccurred, ExceptionDescribe, ExceptionClear, ExceptionCheck}
use Rattle.jg_words.specs.declared.call.monitors.MonitorsCall.{MonitorsCall}
use Rattle.jg_words.specs.declared.call.monitors.MonitorsCall.TheVariants.{MonitorEnter, MonitorExit}
use Rattle.jg_policy.specs.Stated.{StatedSetup}
use Rattle.jg_policy.specs.Links as links
use Rattle.jg_table_buffers.specs.History as buffers
use Rattle.jg_table_heap.specs.History as heap
use Rattle.jg_table_heap.specs.Making.{class_in, length_in}
use Rattle.jg_table_heap.specs.Reading.{natural}
use Rattle.jg_rules.specs.Parts.{Parts}
use Rattle.jg_rules.specs.Names.{the_object, pending}
use Rattle.jg_rules.specs.NativeUse.{native_class, home_of}
use Rattle.jg_rules.specs.Holding.{going}
use Rattle.jg_rules.specs.Effects.{parts, is_effective, if_effective, warning, vm_links, objects_heap, strings_heap, arrays_heap, buffers_buffers}
use Rattle.jg_words.specs.Classes.{class_thrown}
use Rattle.jg_core.specs.declared.fact.Fact.{Fact}
use Rattle.jg_core.specs.declared.fact.Fact.TheVariants.{Begin, End, Enter, Leave, Push, Pop, Ensure, Raise, Calm, Hand, Lost, Lend, Back, Own, Free, Meet, Gone, Link, Unlink, Warn}
use Rattle.jg_core.specs.Facts.{is_attached}

-- ---- events of tables as facts

-- the objects that are made
abbrev pub object_facts : List heap.Event → List Fact
object_facts [] = []
object_facts (heap.Made m ∷ e) = Meet (class_in m) (length_in m) ∷ object_facts e
object_facts (heap.Wrote o j v ∷ e) = object_facts e
object_facts (heap.Collected roots ∷ e) = object_facts e
object_facts (heap.Went o ∷ e) = object_facts e

-- the buffers that t is lent and gives back
abbrev pub buffer_facts : Tid → List buffers.Event → List Fact
buffer_facts t [] = []
buffer_facts t (buffers.Opened b ∷ e) =
    Lend t b.family (record { 0 = b.object }) b.via b.length ∷ buffer_facts t e
buffer_facts t (buffers.Wrote k i j v ∷ e) = buffer_facts t e
buffer_facts t (buffers.Closed k i ∷ e) = Back (record { maker = record { 0 = k }; n = i }) ∷ buffer_facts t e
buffer_facts t (buffers.ReleaseAll k ∷ e) = buffer_facts t e

-- what is linked, unlinked and warned of
abbrev pub link_facts : List links.Event → List Fact
link_facts [] = []
link_facts (links.Linked class native ∷ e) = Link class native ∷ link_facts e
link_facts (links.UnlinkedAll class ∷ e) = Unlink class ∷ link_facts e
link_facts (links.Warned home ∷ e) = Warn home ∷ link_facts e

-- the objects that go, in the order of the list
abbrev pub gone_facts : List ℕ → List Fact
gone_facts [] = []
gone_facts (o ∷ objects) = gone_facts objects ++ Gone (record { 0 = o }) ∷ []

-- ---- what a call does of its own

-- a session begins where the thread has none, and ends where it has one: the other attachments and detachments are none
abbrev pub begin_facts : Bool → Tid → List Fact
begin_facts true t = []
begin_facts false t = Begin t ∷ []

abbrev pub end_facts : Bool → Tid → List Fact
end_facts true t = End t ∷ []
end_facts false t = []

-- what was pending stays so where a native method has ended
abbrev pub pending_facts : Tid → Option ℕ → List Fact
pending_facts t None = []
pending_facts t (Some o) = Raise t (record { 0 = o }) ∷ []

-- `kept` is the object that the frame below is handed a reference to, by NativeLeave and PopLocalFrame alone
abbrev vm_facts : StatedSetup → Parts → Tid → Option ObjId → VmCall → List Fact
vm_facts s p t kept AttachCurrentThread = begin_facts (is_attached p t.0) t
vm_facts s p t kept DetachCurrentThread = end_facts (is_attached p t.0) t
vm_facts s p t kept GetEnv = []
vm_facts s p t kept (NativeEnter class method signature) = Enter t ∷ []
vm_facts s p t kept (NativeLeave r) = pending_facts t (pending p t.0) ++ Leave t kept ∷ []
vm_facts s p t kept (LoadLibrary class library) = []
vm_facts s p t kept (RegisterNatives class method signature) =
    link_facts (vm_links s p t.0 (RegisterNatives class method signature))
vm_facts s p t kept (UnregisterNatives class) = link_facts (vm_links s p t.0 (UnregisterNatives class))
vm_facts s p t kept Collect = gone_facts (going s p)

-- a deletion of null ends nothing
abbrev pub lost_facts : Ref → List Fact
lost_facts Null = []
lost_facts (To kind maker n) = Lost (To kind maker n) ∷ []

abbrev refs_facts : RefsCall → List Fact
refs_facts (NewLocalRef r) = []
refs_facts (NewGlobalRef r) = []
refs_facts (NewWeakGlobalRef r) = []
refs_facts (DeleteLocalRef r) = lost_facts r
refs_facts (DeleteGlobalRef r) = lost_facts r
refs_facts (DeleteWeakGlobalRef r) = lost_facts r
refs_facts (IsSameObject r u) = []
refs_facts (GetObjectRefType r) = []

abbrev frames_facts : Tid → Option ObjId → FramesCall → List Fact
frames_facts t kept (PushLocalFrame capacity) = Push t (natural capacity) ∷ []
frames_facts t kept (PopLocalFrame r) = Pop t kept ∷ []
frames_facts t kept (EnsureLocalCapacity capacity) = Ensure t (natural capacity) ∷ []

-- what a Throw makes pending comes with its answer
abbrev exceptions_facts : Tid → ExceptionsCall → List Fact
exceptions_facts t (Throw r) = []
exceptions_facts t ExceptionOccurred = []
exceptions_facts t ExceptionDescribe = Calm t ∷ []
exceptions_facts t ExceptionClear = Calm t ∷ []
exceptions_facts t ExceptionCheck = []

abbrev monitors_facts : Parts → Tid → MonitorsCall → List Fact
monitors_facts p t (MonitorEnter r) = Own t (record { 0 = the_object p t.0 r }) ∷ []
monitors_facts p t (MonitorExit r) = Free t (record { 0 = the_object p t.0 r }) ∷ []

abbrev pub own_facts : StatedSetup → Parts → Tid → Option ObjId → Call → List Fact
own_facts s p t kept (Vm call) = vm_facts s p t kept call
own_facts s p t kept (Refs call) = refs_facts call
own_facts s p t kept (Frames call) = frames_facts t kept call
own_facts s p t kept (Exceptions call) = exceptions_facts t call
own_facts s p t kept (Objects call) = object_facts (objects_heap s p t.0 call)
own_facts s p t kept (Strings call) = object_facts (strings_heap call)
own_facts s p t kept (Arrays call) = object_facts (arrays_heap p t.0 call)
own_facts s p t kept (Monitors call) = monitors_facts p t call
own_facts s p t kept (Buffers call) = buffer_facts t (buffers_buffers s p t.0 call)

-- ---- what its answer brings

-- a reference is handed out, an exception is made and pending, a Throw's object is pending
abbrev pub value_facts : Tid → Value → Option ObjId → List Fact
value_facts t (Reference (To kind maker n)) (Some o) = Hand t kind o ∷ []
value_facts t (Threw kind) (Some o) = Raise t o ∷ Meet (class_thrown kind) 0 ∷ []
value_facts t Done (Some o) = Raise t o ∷ []
value_facts t value o = []

-- what NativeLeave and PopLocalFrame hand the frame below came with the leaving and the popping
abbrev pub answer_facts : Call → Tid → Value → Option ObjId → List Fact
answer_facts (Vm (NativeLeave r)) t value o = []
answer_facts (Frames (PopLocalFrame r)) t value o = []
answer_facts call t value o = value_facts t value o

-- ---- all

-- a call that threw, or found a monitor busy, does nothing of its own
abbrev pub passed_facts : StatedSetup → Parts → Tid → Call → Reply → Option ObjId → List Fact
passed_facts s p t call reply o =
    link_facts (warning reply.warned (home_of s (native_class s p t.0 call)))
    ++ (answer_facts call t reply.value o ++ if_effective (is_effective reply.value) (own_facts s p t o call))

-- a denied entry is none
abbrev pub outcome_facts : StatedSetup → Parts → Tid → Call → Outcome → Option ObjId → List Fact
outcome_facts s p t call (Passed reply) o = passed_facts s p t call reply o
outcome_facts s p t call (Denied rule) o = []

-- the facts of a history
abbrev pub facts_of : StatedSetup → List Entry → List Fact
facts_of s [] = []
facts_of s (x ∷ h) = outcome_facts s (parts s h) x.tid x.call x.outcome x.object ++ facts_of s h
