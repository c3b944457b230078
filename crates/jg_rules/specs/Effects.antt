-- What the entries of a history are to each table, the newest event first. Every effect is read off the state before.
use Rattle.std.specs.Prelude.{ℕ, ℤ, pos, Bool, true, false, if◌then◌else◌, List, [], ◌∷◌, ◌++◌, map, length, Option, Some, None}
use Rattle.std.specs.Option.{option_map, unwrap_or}
use Rattle.jg_words.specs.declared.object.ObjId.{ObjId}
use Rattle.jg_words.specs.declared.reference.Ref.{Ref}
use Rattle.jg_words.specs.declared.reference.Ref.TheVariants.{Null, To}
use Rattle.jg_words.specs.declared.reference.Kind.TheVariants.{Local, Global, Weak}
use Rattle.jg_words.specs.declared.value.Value.{Value}
use Rattle.jg_words.specs.declared.value.Value.TheVariants.{Ok as Done, Reference, Buffer as Lent, Busy, Throw as Threw}
use Rattle.jg_words.specs.Classes.{array_class, class_thrown}
use Rattle.jg_words.specs.declared.entry.Reply.{Reply}
use Rattle.jg_words.specs.declared.entry.Outcome.{Outcome}
use Rattle.jg_words.specs.declared.entry.Outcome.TheVariants.{Passed, Denied}
use Rattle.jg_words.specs.Entry.{Entry}
use Rattle.jg_words.specs.declared.call.Call.{Call}
use Rattle.jg_words.specs.declared.call.Call.TheVariants.{Vm, Refs, Frames, Exceptions, Objects, Strings, Arrays, Monitors, Buffers}
use Rattle.jg_words.specs.declared.call.vm.VmCall.{VmCall}
use Rattle.jg_words.specs.declared.call.vm.VmCall.TheVariants.{AttachCurrentThread, DetachCurrentThread, GetEnv, NativeEnter, NativeLeave, LoadLibrary, RegisterNatives, UnregisterNatives, Collect}
use Rattle.jg_words.specs.declared.call.refs.RefsCall.{RefsCall}
use Rattle.jg_words.specs.declared.call.refs.RefsCall.TheVariants.{NewLocalRef, NewGlobalRef, NewWeakGlobalRef, DeleteLocalRef, DeleteGlobalRef, DeleteWeakGlobalRef, IsSameObject, GetObjectRefType}
use Rattle.jg_words.specs.declared.call.frames.FramesCall.{FramesCall}
use Rattle.jg_words.specs.declared.call.frames.FramesCall.TheVariants.{PushLocalFrame, PopLocalFrame, EnsureLocalCapacity}
use Rattle.jg_words.specs.declared.call.exceptions.ExceptionsCall.{ExceptionsCall}
use Rattle.jg_words.specs.declared.call.exceptions.ExceptionsCall.TheVariants.{Throw, ExceptionOccurred, ExceptionDescribe, ExceptionClear, ExceptionCheck}
use Rattle.jg_words.specs.declared.call.objects.ObjectsCall.{ObjectsCall}
use Rattle.jg_words.specs.declared.call.objects.ObjectsCall.TheVariants.{FindClass, GetObjectClass, IsInstanceOf, AllocObject, GetFieldID, GetField, GetObjectField, SetField, SetObjectField}
use Rattle.jg_words.specs.declared.call.strings.StringsCall.{StringsCall}
use Rattle.jg_words.specs.declared.call.strings.StringsCall.TheVariants.{NewString, NewStringUTF, GetStringLength, GetStringUTFLength, GetStringRegion}
use Rattle.jg_words.specs.declared.call.arrays.ArraysCall.{ArraysCall}
use Rattle.jg_words.specs.declared.call.arrays.ArraysCall.TheVariants.{NewArray, GetArrayLength, GetArrayRegion, SetArrayRegion, NewObjectArray, GetObjectArrayElement, SetObjectArrayElement}
use Rattle.jg_words.specs.declared.call.monitors.MonitorsCall.{MonitorsCall}
use Rattle.jg_words.specs.declared.call.monitors.MonitorsCall.TheVariants.{MonitorEnter, MonitorExit}
use Rattle.jg_words.specs.declared.call.buffers.BuffersCall.{BuffersCall}
use Rattle.jg_words.specs.declared.call.buffers.BuffersCall.TheVariants.{GetArrayElements, ReleaseArrayElements, GetStringChars, ReleaseStringChars, GetStringUTFChars, ReleaseStringUTFChars, GetPrimitiveArrayCritical, ReleasePrimitiveArrayCritical, GetStringCritical, ReleaseStringCritical, BufferRead, BufferWrite}
use Rattle.jg_words.specs.declared.buffer.BufId.{BufId}
use Rattle.jg_words.specs.declared.object.ItemType.TheVariants.{Of}
use Rattle.jg_table_buffers.specs.declared.family.Family.{Family}
use Rattle.jg_table_buffers.specs.declared.family.Family.TheVariants.{Elements, Chars, UtfChars, ArrayCritical, StringCritical}
use Rattle.jg_table_buffers.specs.declared.info.Info.{Info}
use Rattle.jg_policy.specs.Stated.{StatedSetup, StatedMember}
use Rattle.jg_policy.specs.Classes.{class_at, fields_in, is_class_type}
use Rattle.jg_policy.specs.Links as links
use Rattle.jg_table_threads.specs.History as threads
use Rattle.jg_table_locals.specs.History as locals
use Rattle.jg_table_globals.specs.History as globals
use Rattle.jg_table_buffers.specs.History as buffers
use Rattle.jg_table_monitors.specs.History as monitors
use Rattle.jg_table_heap.specs.History as heap
use Rattle.jg_table_heap.specs.Making.{Text, Plain, Filled}
use Rattle.jg_table_heap.specs.Reading.{natural, decoded}
use Rattle.jg_table_heap.specs.Spelling.{spelt}
use Rattle.jg_table_heap.specs.declared.object.Slot.{Slot}
use Rattle.jg_table_heap.specs.declared.object.Slot.TheVariants.{Number, Object as Pointer}
use Rattle.jg_rules.specs.Names.{the_object, object_named, class_meant, native_meant, slot_place, next_buffer, length_of, units_of, items_of}
use Rattle.jg_rules.specs.Parts.{Parts, nothing_yet}
use Rattle.jg_rules.specs.NativeUse.{native_class, home_of}
use Rattle.jg_rules.specs.Holding.{roots, going}
use Rattle.jg_rules.specs.Buffers.{buffer_named, is_commit, writes_back}

-- ---- a call's own events

abbrev pub vm_threads : VmCall → List threads.Act
vm_threads AttachCurrentThread = threads.Attach ∷ []
vm_threads DetachCurrentThread = threads.Detach ∷ []
vm_threads GetEnv = []
vm_threads (NativeEnter class method signature) = threads.Enter ∷ []
vm_threads (NativeLeave kept) = threads.Leave ∷ []
vm_threads (LoadLibrary class library) = []
vm_threads (RegisterNatives class method signature) = []
vm_threads (UnregisterNatives class) = []
vm_threads Collect = []

-- what a Throw makes pending comes with its answer
abbrev pub exceptions_threads : ExceptionsCall → List threads.Act
exceptions_threads (Throw r) = []
exceptions_threads ExceptionOccurred = []
exceptions_threads ExceptionDescribe = threads.Calm ∷ []
exceptions_threads ExceptionClear = threads.Calm ∷ []
exceptions_threads ExceptionCheck = []

abbrev pub call_threads : StatedSetup → Parts → ℕ → Call → List threads.Act
call_threads s p t (Vm call) = vm_threads call
call_threads s p t (Refs call) = []
call_threads s p t (Frames call) = []
call_threads s p t (Exceptions call) = exceptions_threads call
call_threads s p t (Objects call) = []
call_threads s p t (Strings call) = []
call_threads s p t (Arrays call) = []
call_threads s p t (Monitors call) = []
call_threads s p t (Buffers call) = []

-- a session begins only where the thread has none
abbrev pub started : Bool → List locals.Act
started true = []
started false = locals.Start ∷ []

abbrev pub vm_locals : Parts → ℕ → VmCall → List locals.Act
vm_locals p t AttachCurrentThread = started (threads.attached (threads.acts_of t p.threads))
vm_locals p t DetachCurrentThread = locals.End ∷ []
vm_locals p t GetEnv = []
vm_locals p t (NativeEnter class method signature) = locals.Enter ∷ []
vm_locals p t (NativeLeave kept) = locals.Leave ∷ []
vm_locals p t (LoadLibrary class library) = []
vm_locals p t (RegisterNatives class method signature) = []
vm_locals p t (UnregisterNatives class) = []
vm_locals p t Collect = []

abbrev pub deletes_local : Ref → List locals.Act
deletes_local Null = []
deletes_local (To Local maker n) = locals.Delete n ∷ []
deletes_local (To Global maker n) = []
deletes_local (To Weak maker n) = []

abbrev pub refs_locals : RefsCall → List locals.Act
refs_locals (NewLocalRef r) = []
refs_locals (NewGlobalRef r) = []
refs_locals (NewWeakGlobalRef r) = []
refs_locals (DeleteLocalRef r) = deletes_local r
refs_locals (DeleteGlobalRef r) = []
refs_locals (DeleteWeakGlobalRef r) = []
refs_locals (IsSameObject r u) = []
refs_locals (GetObjectRefType r) = []

-- the capacity is the frame's room, or is beside what it holds (JNI Specification, chapter 4, "Local References")
abbrev pub frames_locals : FramesCall → List locals.Act
frames_locals (PushLocalFrame capacity) = locals.Push (natural capacity) ∷ []
frames_locals (PopLocalFrame r) = locals.Pop ∷ []
frames_locals (EnsureLocalCapacity capacity) = locals.Ensure (natural capacity) ∷ []

abbrev pub call_locals : StatedSetup → Parts → ℕ → Call → List locals.Act
call_locals s p t (Vm call) = vm_locals p t call
call_locals s p t (Refs call) = refs_locals call
call_locals s p t (Frames call) = frames_locals call
call_locals s p t (Exceptions call) = []
call_locals s p t (Objects call) = []
call_locals s p t (Strings call) = []
call_locals s p t (Arrays call) = []
call_locals s p t (Monitors call) = []
call_locals s p t (Buffers call) = []

-- what goes leaves its weak references cleared (JNI Specification, chapter 4, "Weak Global References")
abbrev pub vm_globals : StatedSetup → Parts → VmCall → List globals.Event
vm_globals s p AttachCurrentThread = []
vm_globals s p DetachCurrentThread = []
vm_globals s p GetEnv = []
vm_globals s p (NativeEnter class method signature) = []
vm_globals s p (NativeLeave kept) = []
vm_globals s p (LoadLibrary class library) = []
vm_globals s p (RegisterNatives class method signature) = []
vm_globals s p (UnregisterNatives class) = []
vm_globals s p Collect = map (λ o. globals.Clear o) (going s p)

abbrev pub refs_globals : RefsCall → List globals.Event
refs_globals (NewLocalRef r) = []
refs_globals (NewGlobalRef r) = []
refs_globals (NewWeakGlobalRef r) = []
refs_globals (DeleteLocalRef r) = []
refs_globals (DeleteGlobalRef r) = globals.deletion r
refs_globals (DeleteWeakGlobalRef r) = globals.deletion r
refs_globals (IsSameObject r u) = []
refs_globals (GetObjectRefType r) = []

abbrev pub call_globals : StatedSetup → Parts → ℕ → Call → List globals.Event
call_globals s p t (Vm call) = vm_globals s p call
call_globals s p t (Refs call) = refs_globals call
call_globals s p t (Frames call) = []
call_globals s p t (Exceptions call) = []
call_globals s p t (Objects call) = []
call_globals s p t (Strings call) = []
call_globals s p t (Arrays call) = []
call_globals s p t (Monitors call) = []
call_globals s p t (Buffers call) = []

-- t is lent a copy of these items, as its next buffer; or a pinned buffer of so many, through the reference
abbrev pub lent_copy : Parts → ℕ → ℕ → Family → List ℤ → List buffers.Event
lent_copy p t o family items = buffers.Opened (buffers.copy_with t (next_buffer p t) o family items) ∷ []

abbrev pub lent_pin : Parts → ℕ → ℕ → Family → Ref → ℕ → List buffers.Event
lent_pin p t o family r n = buffers.Opened (buffers.pin_through t (next_buffer p t) o family r n) ∷ []

abbrev pub closed : BufId → List buffers.Event
closed b = buffers.Closed b.maker.0 b.n ∷ []

-- JNI_COMMIT doesn't close it
abbrev pub closed_by : ℤ → BufId → List buffers.Event
closed_by mode b = if is_commit mode then [] else closed b

-- into a copy itself
abbrev pub wrote_copy : BufId → ℕ → ℤ → Option Info → List buffers.Event
wrote_copy b index v None = []
wrote_copy b index v (Some info) =
    if buffers.is_critical info.family then [] else buffers.Wrote b.maker.0 b.n index v ∷ []

-- (JNI Specification, chapter 4, "String Operations", "Array Operations")
abbrev pub buffers_buffers : StatedSetup → Parts → ℕ → BuffersCall → List buffers.Event
buffers_buffers s p t (GetArrayElements element r) =
    lent_copy p t (the_object p t r) (Elements (Of element)) (items_of s p (the_object p t r))
buffers_buffers s p t (ReleaseArrayElements element r b mode) = closed_by mode b
buffers_buffers s p t (GetStringChars r) =
    lent_copy p t (the_object p t r) Chars (map pos (units_of s p (the_object p t r)))
buffers_buffers s p t (ReleaseStringChars r b) = closed b
buffers_buffers s p t (GetStringUTFChars r) =
    lent_copy p t (the_object p t r) UtfChars (map pos (spelt (units_of s p (the_object p t r))))
buffers_buffers s p t (ReleaseStringUTFChars r b) = closed b
buffers_buffers s p t (GetPrimitiveArrayCritical r) =
    lent_pin p t (the_object p t r) ArrayCritical r (length_of s p (the_object p t r))
buffers_buffers s p t (ReleasePrimitiveArrayCritical r b mode) = closed_by mode b
buffers_buffers s p t (GetStringCritical r) =
    lent_pin p t (the_object p t r) StringCritical r (length (units_of s p (the_object p t r)))
buffers_buffers s p t (ReleaseStringCritical r b) = closed b
buffers_buffers s p t (BufferRead b index) = []
buffers_buffers s p t (BufferWrite b index value) = wrote_copy b (natural index) value (buffer_named p b)

abbrev pub call_buffers : StatedSetup → Parts → ℕ → Call → List buffers.Event
call_buffers s p t (Vm call) = []
call_buffers s p t (Refs call) = []
call_buffers s p t (Frames call) = []
call_buffers s p t (Exceptions call) = []
call_buffers s p t (Objects call) = []
call_buffers s p t (Strings call) = []
call_buffers s p t (Arrays call) = []
call_buffers s p t (Monitors call) = []
call_buffers s p t (Buffers call) = buffers_buffers s p t call

abbrev pub vm_monitors : VmCall → List monitors.Act
vm_monitors AttachCurrentThread = []
vm_monitors DetachCurrentThread = monitors.ReleaseAll ∷ []
vm_monitors GetEnv = []
vm_monitors (NativeEnter class method signature) = []
vm_monitors (NativeLeave kept) = []
vm_monitors (LoadLibrary class library) = []
vm_monitors (RegisterNatives class method signature) = []
vm_monitors (UnregisterNatives class) = []
vm_monitors Collect = []

abbrev pub monitors_monitors : Parts → ℕ → MonitorsCall → List monitors.Act
monitors_monitors p t (MonitorEnter r) = monitors.Enter (the_object p t r) ∷ []
monitors_monitors p t (MonitorExit r) = monitors.Exit (the_object p t r) ∷ []

abbrev pub call_monitors : StatedSetup → Parts → ℕ → Call → List monitors.Act
call_monitors s p t (Vm call) = vm_monitors call
call_monitors s p t (Refs call) = []
call_monitors s p t (Frames call) = []
call_monitors s p t (Exceptions call) = []
call_monitors s p t (Objects call) = []
call_monitors s p t (Strings call) = []
call_monitors s p t (Arrays call) = []
call_monitors s p t (Monitors call) = monitors_monitors p t call
call_monitors s p t (Buffers call) = []

-- a field holds 0, or null where its type is a class
abbrev pub first_value : StatedMember → Slot
first_value field = if is_class_type field.signature then Pointer None else Number (pos 0)

-- what a place that holds references is made to hold
abbrev pub pointer : Option ℕ → Slot
pointer target = Pointer (option_map (λ o. record { 0 = o }) target)

abbrev pub vm_heap : StatedSetup → Parts → VmCall → List heap.Event
vm_heap s p AttachCurrentThread = []
vm_heap s p DetachCurrentThread = []
vm_heap s p GetEnv = []
vm_heap s p (NativeEnter class method signature) = []
vm_heap s p (NativeLeave kept) = []
vm_heap s p (LoadLibrary class library) = []
vm_heap s p (RegisterNatives class method signature) = []
vm_heap s p (UnregisterNatives class) = []
vm_heap s p Collect = heap.Collected (roots s p) ∷ []

abbrev pub objects_heap : StatedSetup → Parts → ℕ → ObjectsCall → List heap.Event
objects_heap s p t (FindClass name) = []
objects_heap s p t (GetObjectClass r) = []
objects_heap s p t (IsInstanceOf r class) = []
objects_heap s p t (AllocObject class) =
    heap.Made (Plain (the_object p t class) (map first_value (fields_in (class_at s (the_object p t class))))) ∷ []
objects_heap s p t (GetFieldID class field signature) = []
objects_heap s p t (GetField primitive r field) = []
objects_heap s p t (GetObjectField r field) = []
objects_heap s p t (SetField primitive r field value) =
    heap.Wrote (the_object p t r) (slot_place field) (Number value) ∷ []
objects_heap s p t (SetObjectField r field value) =
    heap.Wrote (the_object p t r) (slot_place field) (pointer (object_named p t value)) ∷ []

abbrev pub strings_heap : StringsCall → List heap.Event
strings_heap (NewString units) = heap.Made (Text (map natural units)) ∷ []
strings_heap (NewStringUTF bytes) = heap.Made (Text (unwrap_or (decoded bytes) [])) ∷ []
strings_heap (GetStringLength r) = []
strings_heap (GetStringUTFLength r) = []
strings_heap (GetStringRegion r start n) = []

abbrev pub arrays_heap : Parts → ℕ → ArraysCall → List heap.Event
arrays_heap p t (NewArray element n) = heap.Made (Filled (array_class element) (natural n) (Number (pos 0))) ∷ []
arrays_heap p t (GetArrayLength r) = []
arrays_heap p t (GetArrayRegion element r start n) = []
arrays_heap p t (SetArrayRegion element r start values) = heap.region_writes (the_object p t r) (natural start) values
arrays_heap p t (NewObjectArray n class fill) = heap.Made (Filled 3 (natural n) (pointer (object_named p t fill))) ∷ []
arrays_heap p t (GetObjectArrayElement r index) = []
arrays_heap p t (SetObjectArrayElement r index value) =
    heap.Wrote (the_object p t r) (natural index) (pointer (object_named p t value)) ∷ []

-- these items go into the object that the buffer was made from
abbrev pub wrote_back : List ℤ → Option Info → List heap.Event
wrote_back items None = []
wrote_back items (Some info) = heap.region_writes info.object.0 0 items

-- the items of a copy are written back by mode 0 and by JNI_COMMIT
abbrev pub copied_back : Parts → BufId → ℤ → List heap.Event
copied_back p b mode =
    if writes_back mode then wrote_back (buffers.contents p.buffers b.maker.0 b.n) (buffer_named p b) else []

-- into the object of a pinned buffer
abbrev pub wrote_pinned : ℕ → ℤ → Option Info → List heap.Event
wrote_pinned index v None = []
wrote_pinned index v (Some info) =
    if buffers.is_critical info.family then heap.Wrote info.object.0 index (Number v) ∷ [] else []

abbrev pub buffers_heap : Parts → ℕ → BuffersCall → List heap.Event
buffers_heap p t (GetArrayElements element r) = []
buffers_heap p t (ReleaseArrayElements element r b mode) = copied_back p b mode
buffers_heap p t (GetStringChars r) = []
buffers_heap p t (ReleaseStringChars r b) = []
buffers_heap p t (GetStringUTFChars r) = []
buffers_heap p t (ReleaseStringUTFChars r b) = []
buffers_heap p t (GetPrimitiveArrayCritical r) = []
buffers_heap p t (ReleasePrimitiveArrayCritical r b mode) = []
buffers_heap p t (GetStringCritical r) = []
buffers_heap p t (ReleaseStringCritical r b) = []
buffers_heap p t (BufferRead b index) = []
buffers_heap p t (BufferWrite b index value) = wrote_pinned (natural index) value (buffer_named p b)

abbrev pub call_heap : StatedSetup → Parts → ℕ → Call → List heap.Event
call_heap s p t (Vm call) = vm_heap s p call
call_heap s p t (Refs call) = []
call_heap s p t (Frames call) = []
call_heap s p t (Exceptions call) = []
call_heap s p t (Objects call) = objects_heap s p t call
call_heap s p t (Strings call) = strings_heap call
call_heap s p t (Arrays call) = arrays_heap p t call
call_heap s p t (Monitors call) = []
call_heap s p t (Buffers call) = buffers_heap p t call

-- the class's native method is linked, again if it was
abbrev pub linking : Option ℕ → Option ℕ → List links.Event
linking None native = []
linking (Some class) None = []
linking (Some class) (Some native) = links.Linked class native ∷ []

abbrev pub unlinking : Option ℕ → List links.Event
unlinking None = []
unlinking (Some class) = links.UnlinkedAll class ∷ []

abbrev pub vm_links : StatedSetup → Parts → ℕ → VmCall → List links.Event
vm_links s p t AttachCurrentThread = []
vm_links s p t DetachCurrentThread = []
vm_links s p t GetEnv = []
vm_links s p t (NativeEnter class method signature) = []
vm_links s p t (NativeLeave kept) = []
vm_links s p t (LoadLibrary class library) = []
vm_links s p t (RegisterNatives class method signature) =
    linking (class_meant s p t class) (native_meant s (class_meant s p t class) method signature)
vm_links s p t (UnregisterNatives class) = unlinking (class_meant s p t class)
vm_links s p t Collect = []

abbrev pub call_links : StatedSetup → Parts → ℕ → Call → List links.Event
call_links s p t (Vm call) = vm_links s p t call
call_links s p t (Refs call) = []
call_links s p t (Frames call) = []
call_links s p t (Exceptions call) = []
call_links s p t (Objects call) = []
call_links s p t (Strings call) = []
call_links s p t (Arrays call) = []
call_links s p t (Monitors call) = []
call_links s p t (Buffers call) = []

-- the parts with them in front
abbrev pub done_by : StatedSetup → ℕ → Call → Parts → Parts
done_by s t call p = record {
  threads = map (threads.by t) (call_threads s p t call) ++ p.threads;
  locals = map (locals.by t) (call_locals s p t call) ++ p.locals;
  globals = call_globals s p t call ++ p.globals;
  buffers = call_buffers s p t call ++ p.buffers;
  monitors = map (monitors.by t) (call_monitors s p t call) ++ p.monitors;
  heap = call_heap s p t call ++ p.heap;
  links = call_links s p t call ++ p.links;
}

-- a call that threw, or found a monitor busy, does nothing of its own
abbrev pub is_effective : Value → Bool
is_effective (Threw kind) = false
is_effective Busy = false
is_effective value = true

abbrev pub if_effective : {E : Type 0} → Bool → List E → List E
if_effective true events = events
if_effective false events = []

abbrev pub done_if : Bool → StatedSetup → ℕ → Call → Parts → Parts
done_if b s t call p = record {
  threads = map (threads.by t) (if_effective b (call_threads s p t call)) ++ p.threads;
  locals = map (locals.by t) (if_effective b (call_locals s p t call)) ++ p.locals;
  globals = if_effective b (call_globals s p t call) ++ p.globals;
  buffers = if_effective b (call_buffers s p t call) ++ p.buffers;
  monitors = map (monitors.by t) (if_effective b (call_monitors s p t call)) ++ p.monitors;
  heap = if_effective b (call_heap s p t call) ++ p.heap;
  links = if_effective b (call_links s p t call) ++ p.links;
}

-- ---- what an answer brings, whichever call it was: a reference or a buffer is handed out, an exception is made and
-- pending, an object behind a bare `ok` is pending (it is a Throw's), a module is warned of

abbrev pub value_threads : Value → Option ObjId → List threads.Act
value_threads (Reference r) o = threads.CountRef ∷ []
value_threads (Lent b) o = threads.CountBuffer ∷ []
value_threads (Threw kind) (Some o) = threads.Raise o.0 ∷ []
value_threads Done (Some o) = threads.Raise o.0 ∷ []
value_threads value o = []

abbrev pub value_locals : Value → Option ObjId → List locals.Act
value_locals (Reference (To Local maker n)) (Some o) = locals.Make n o.0 ∷ []
value_locals value o = []

abbrev pub value_globals : Value → Option ObjId → List globals.Event
value_globals (Reference (To Global maker n)) (Some o) = globals.MakeStrong maker.0 n o.0 ∷ []
value_globals (Reference (To Weak maker n)) (Some o) = globals.MakeWeak maker.0 n o.0 ∷ []
value_globals value o = []

abbrev pub value_heap : Value → List heap.Event
value_heap (Threw kind) = heap.Made (Plain (class_thrown kind) []) ∷ []
value_heap value = []

abbrev pub warning : Bool → Option ℕ → List links.Event
warning false home = []
warning true None = []
warning true (Some home) = links.Warned home ∷ []

-- the parts with these in front; `home` is the module that a warning would name
abbrev pub settled : Option ℕ → ℕ → Reply → Option ObjId → Parts → Parts
settled home t reply o p = record {
  threads = map (threads.by t) (value_threads reply.value o) ++ p.threads;
  locals = map (locals.by t) (value_locals reply.value o) ++ p.locals;
  globals = value_globals reply.value o ++ p.globals;
  buffers = p.buffers;
  monitors = p.monitors;
  heap = value_heap reply.value ++ p.heap;
  links = warning reply.warned home ++ p.links;
}

-- ---- all

-- the parts with a passed entry's events in front: its own ones, and then those of its answer
abbrev pub passed_on : StatedSetup → ℕ → Call → Reply → Option ObjId → Parts → Parts
passed_on s t call reply o p = settled (home_of s (native_class s p t call)) t reply o
    (done_if (is_effective reply.value) s t call p)

-- a denied entry changes nothing
abbrev pub after : StatedSetup → ℕ → Call → Outcome → Option ObjId → Parts → Parts
after s t call (Passed reply) o p = passed_on s t call reply o p
after s t call (Denied rule) o p = p

-- the events of a history, the newest entry first
abbrev pub parts : StatedSetup → List Entry → Parts
parts s [] = nothing_yet
parts s (x ∷ h) = after s x.tid.0 x.call x.outcome x.object (parts s h)
