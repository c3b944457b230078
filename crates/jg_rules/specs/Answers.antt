-- What a call that breaks no rule answers, and the object that it hands out a reference for.
use Rattle.std.specs.Prelude.{ℕ, ℤ, pos, ◌+◌, ◌==◌, ◌&&◌, ◌||◌, Bool, true, false, nat_lt, int_lt, List, ◌∷◌, length, map, take, drop, Option, Some, None}
use Rattle.std.specs.Option.{option_map, is_some}
use Rattle.jg_words.specs.declared.thread.Tid.{Tid}
use Rattle.jg_words.specs.declared.object.ObjId.{ObjId}
use Rattle.jg_words.specs.declared.object.FieldId.{FieldId}
use Rattle.jg_words.specs.declared.reference.Kind.{Kind}
use Rattle.jg_words.specs.declared.reference.Kind.TheVariants.{Local, Global, Weak}
use Rattle.jg_words.specs.declared.reference.Ref.{Ref}
use Rattle.jg_words.specs.declared.reference.Ref.TheVariants.{Null, To}
use Rattle.jg_words.specs.declared.value.Value.{Value}
use Rattle.jg_words.specs.declared.value.Value.TheVariants.{Ok as Done, Number as Amount, Truth, Null as NullAnswer, Reference, Buffer as Lent, Field, Environment, List as Listed, Busy, Detached as NotAttached, Throw as Threw}
use Rattle.jg_words.specs.declared.value.Thrown.{Thrown}
use Rattle.jg_words.specs.declared.value.Thrown.TheVariants.{ArrayIndexOutOfBounds, StringIndexOutOfBounds, NoClassDefFound, NoSuchField, NoSuchMethod}
use Rattle.jg_words.specs.declared.call.Call.{Call}
use Rattle.jg_words.specs.declared.call.Call.TheVariants.{Vm, Refs, Frames, Exceptions, Objects, Strings, Arrays, Monitors, Buffers}
use Rattle.jg_words.specs.declared.call.vm.VmCall.{VmCall}
use Rattle.jg_words.specs.declared.call.vm.VmCall.TheVariants.{AttachCurrentThread, DetachCurrentThread, GetEnv, NativeEnter, NativeLeave, LoadLibrary, RegisterNatives, UnregisterNatives, Collect}
use Rattle.jg_words.specs.declared.call.refs.RefsCall.{RefsCall}
use Rattle.jg_words.specs.declared.call.refs.RefsCall.TheVariants.{NewLocalRef, NewGlobalRef, NewWeakGlobalRef, DeleteLocalRef, DeleteGlobalRef, DeleteWeakGlobalRef, IsSameObject, GetObjectRefType}
use Rattle.jg_words.specs.declared.call.frames.FramesCall.{FramesCall}
use Rattle.jg_words.specs.declared.call.frames.FramesCall.TheVariants.{PushLocalFrame, PopLocalFrame, EnsureLocalCapacity}
use Rattle.jg_words.specs.declared.call.exceptions.ExceptionsCall.{ExceptionsCall}
use Rattle.jg_words.specs.declared.call.exceptions.ExceptionsCall.TheVariants.{Throw, ExceptionOccurred, ExceptionDescribe, ExceptionClear, ExceptionCheck}
use Rattle.jg_words.specs.declared.call.objects.ObjectsCall.{ObjectsCall}
use Rattle.jg_words.specs.declared.call.objects.ObjectsCall.TheVariants.{FindClass, GetObjectClass, IsInstanceOf, AllocObject, GetFieldID, GetField, GetObjectField, SetField, SetObjectField}
use Rattle.jg_words.specs.declared.call.strings.StringsCall.{StringsCall}
use Rattle.jg_words.specs.declared.call.strings.StringsCall.TheVariants.{NewString, NewStringUTF, GetStringLength, GetStringUTFLength, GetStringRegion}
use Rattle.jg_words.specs.declared.call.arrays.ArraysCall.{ArraysCall}
use Rattle.jg_words.specs.declared.call.arrays.ArraysCall.TheVariants.{NewArray, GetArrayLength, GetArrayRegion, SetArrayRegion, NewObjectArray, GetObjectArrayElement, SetObjectArrayElement}
use Rattle.jg_words.specs.declared.call.monitors.MonitorsCall.{MonitorsCall}
use Rattle.jg_words.specs.declared.call.monitors.MonitorsCall.TheVariants.{MonitorEnter, MonitorExit}
use Rattle.jg_words.specs.declared.call.buffers.BuffersCall.{BuffersCall}
use Rattle.jg_words.specs.declared.call.buffers.BuffersCall.TheVariants.{GetArrayElements, ReleaseArrayElements, GetStringChars, ReleaseStringChars, GetStringUTFChars, ReleaseStringUTFChars, GetPrimitiveArrayCritical, ReleasePrimitiveArrayCritical, GetStringCritical, ReleaseStringCritical, BufferRead, BufferWrite}
use Rattle.jg_policy.specs.Stated.{StatedSetup}
use Rattle.jg_policy.specs.Classes.{class_named}
use Rattle.jg_table_heap.specs.Reading.{natural}
use Rattle.jg_table_heap.specs.Spelling.{spelt}
use Rattle.jg_table_heap.specs.declared.object.Slot.{Slot}
use Rattle.jg_table_threads.specs.History as threads
use Rattle.jg_table_locals.specs.History.{acts_of}
use Rattle.jg_table_locals.specs.Room as locals
use Rattle.jg_table_monitors.specs.History as monitors
use Rattle.jg_table_monitors.specs.declared.entering.Entering.{Entering}
use Rattle.jg_table_monitors.specs.declared.entering.Entering.TheVariants.{Entered, Busy as KeptOut}
use Rattle.jg_rules.specs.declared.answer.Answer.{Answer}
use Rattle.jg_rules.specs.declared.named.Named.{Named}
use Rattle.jg_rules.specs.declared.named.Named.TheVariants.{Nothing}
use Rattle.jg_rules.specs.Parts.{Parts}
use Rattle.jg_policy.specs.declared.access.Operation.{Operation}
use Rattle.jg_policy.specs.declared.access.Operation.TheVariants.{Load, Register, Link}
use Rattle.jg_rules.specs.NativeUse.{warns}
use Rattle.jg_rules.specs.Effects.{passed_on}
use Rattle.jg_rules.specs.Holding.{going}
use Rattle.jg_rules.specs.Buffers.{buffer_named, item_read}
use Rattle.jg_rules.specs.Names.{names, object_named, the_object, object_count, class_of, length_of, units_of, slot_of, slot_place, number_in, target_in, items_of, session, next_ref, next_buffer, pending, class_meant, native_meant, field_meant}

abbrev pub saying : Value → Option ObjId → Answer
saying value object = record { reply = record { value = value; warned = false; noticed = false }; object = object }

abbrev pub plain : Value → Answer
plain value = saying value None

-- so much
abbrev pub amount : ℕ → Answer
amount n = plain (Amount (pos n))

-- a new reference of the kind for the object, or null for null
abbrev pub handed : Parts → Tid → Kind → Option ℕ → Answer
handed p t kind None = plain NullAnswer
handed p t kind (Some o) = saying (Reference (To kind t (next_ref p t.0))) (Some (record { 0 = o }))

-- a new exception
abbrev pub thrown : StatedSetup → Parts → Thrown → Answer
thrown s p kind = saying (Threw kind) (Some (record { 0 = object_count s p }))

-- the same with a warning, where one is due for a use of native code by the class
abbrev pub admitted : StatedSetup → Parts → Operation → Option ℕ → Answer → Answer
admitted s p operation class a = record {
  reply = record { value = a.reply.value; warned = warns s p operation class; noticed = false };
  object = a.object;
}

abbrev pub present_env : Tid → Option ℕ → Value
present_env t None = NotAttached
present_env t (Some n) = Environment (record { tid = t; session = n })

-- with an exception pending a native method returns null, whatever it was to return
abbrev pub unless_pending : Option ℕ → Answer → Answer
unless_pending None a = a
unless_pending (Some exception) a = plain NullAnswer

-- a method that the class doesn't declare native throws (JNI Specification, chapter 4, RegisterNatives)
abbrev pub registered : StatedSetup → Parts → Option ℕ → Option ℕ → Answer
registered s p class None = thrown s p NoSuchMethod
registered s p class (Some native) = admitted s p Register class (plain Done)

-- the environment of the session that the thread has then; JNI_EDETACHED where it has none (JNI Specification, chapter
-- 5). A native method is handed its class, and what it returns is handed on to the frame below (chapter 2). A
-- collection answers how many objects go
abbrev pub vm_answer : StatedSetup → Parts → Tid → VmCall → Answer
vm_answer s p t AttachCurrentThread = plain
    (Environment (record { tid = t; session = threads.sessions (threads.Attach ∷ threads.acts_of t.0 p.threads) }))
vm_answer s p t DetachCurrentThread = plain Done
vm_answer s p t GetEnv = plain (present_env t (session p t.0))
vm_answer s p t (NativeEnter class method signature) =
    admitted s p Link (class_named s class) (handed p t Local (class_named s class))
vm_answer s p t (NativeLeave kept) = unless_pending (pending p t.0) (handed p t Local (object_named p t.0 kept))
vm_answer s p t (LoadLibrary class library) = admitted s p Load (class_named s class) (plain Done)
vm_answer s p t (RegisterNatives class method signature) =
    registered s p (class_meant s p t.0 class) (native_meant s (class_meant s p t.0 class) method signature)
vm_answer s p t (UnregisterNatives class) = plain Done
vm_answer s p t Collect = amount (length (going s p))

abbrev pub same_object : Option ℕ → Option ℕ → Bool
same_object None None = true
same_object None (Some u) = false
same_object (Some o) None = false
same_object (Some o) (Some u) = o == u

-- JNIInvalidRefType, JNILocalRefType, JNIGlobalRefType, JNIWeakGlobalRefType (JNI Specification, chapter 4,
-- GetObjectRefType)
abbrev pub ref_type : Named → Ref → ℤ
ref_type Nothing r = pos 0
ref_type named Null = pos 0
ref_type named (To Local maker n) = pos 1
ref_type named (To Global maker n) = pos 2
ref_type named (To Weak maker n) = pos 3

abbrev pub refs_answer : Parts → Tid → RefsCall → Answer
refs_answer p t (NewLocalRef r) = handed p t Local (object_named p t.0 r)
refs_answer p t (NewGlobalRef r) = handed p t Global (object_named p t.0 r)
refs_answer p t (NewWeakGlobalRef r) = handed p t Weak (object_named p t.0 r)
refs_answer p t (DeleteLocalRef r) = plain Done
refs_answer p t (DeleteGlobalRef r) = plain Done
refs_answer p t (DeleteWeakGlobalRef r) = plain Done
refs_answer p t (IsSameObject r u) = plain (Truth (same_object (object_named p t.0 r) (object_named p t.0 u)))
refs_answer p t (GetObjectRefType r) = plain (Amount (ref_type (names p t.0 r) r))

-- what `kept` names gets a reference in the frame below (JNI Specification, chapter 4, PopLocalFrame); JNI_OK
abbrev pub frames_answer : Parts → Tid → FramesCall → Answer
frames_answer p t (PushLocalFrame capacity) = plain Done
frames_answer p t (PopLocalFrame kept) = handed p t Local (object_named p t.0 kept)
frames_answer p t (EnsureLocalCapacity capacity) = amount 0

-- a local reference for a new object
abbrev pub made : StatedSetup → Parts → Tid → Answer
made s p t = handed p t Local (Some (object_count s p))

-- the exception that Throw makes pending is its operand's object; a local reference for the pending one, or null (JNI
-- Specification, chapter 4, "Exceptions")
abbrev pub exceptions_answer : Parts → Tid → ExceptionsCall → Answer
exceptions_answer p t (Throw r) = saying Done (option_map (λ o. record { 0 = o }) (object_named p t.0 r))
exceptions_answer p t ExceptionOccurred = handed p t Local (pending p t.0)
exceptions_answer p t ExceptionDescribe = plain Done
exceptions_answer p t ExceptionClear = plain Done
exceptions_answer p t ExceptionCheck = plain (Truth (is_some (pending p t.0)))

-- null is an instance of every class, and every object one of java/lang/Object and of its own class
abbrev pub is_instance : StatedSetup → Parts → ℕ → Option ℕ → Bool
is_instance s p class None = true
is_instance s p class (Some o) = (class == 0) || (class_of s p o == class)

-- a local reference for the class object, which has its class's number; or the exception
abbrev pub class_found : StatedSetup → Parts → Tid → Option ℕ → Answer
class_found s p t None = thrown s p NoClassDefFound
class_found s p t (Some class) = handed p t Local (Some class)

-- a field that the class doesn't have throws
abbrev pub field_found : StatedSetup → Parts → Option FieldId → Answer
field_found s p None = thrown s p NoSuchField
field_found s p (Some field) = plain (Field field)

-- what the field holds of the object
abbrev pub field_value : StatedSetup → Parts → ℕ → FieldId → Slot
field_value s p o field = slot_of s p o (slot_place field)

-- (JNI Specification, chapter 4, "Class Operations", "Object Operations", "Accessing Fields of Objects")
abbrev pub objects_answer : StatedSetup → Parts → Tid → ObjectsCall → Answer
objects_answer s p t (FindClass name) = class_found s p t (class_named s name)
objects_answer s p t (GetObjectClass r) = handed p t Local (Some (class_of s p (the_object p t.0 r)))
objects_answer s p t (IsInstanceOf r class) =
    plain (Truth (is_instance s p (the_object p t.0 class) (object_named p t.0 r)))
objects_answer s p t (AllocObject class) = made s p t
objects_answer s p t (GetFieldID class field signature) =
    field_found s p (field_meant s (class_meant s p t.0 class) field signature)
objects_answer s p t (GetField primitive r field) =
    plain (Amount (number_in (field_value s p (the_object p t.0 r) field)))
objects_answer s p t (GetObjectField r field) =
    handed p t Local (target_in (field_value s p (the_object p t.0 r) field))
objects_answer s p t (SetField primitive r field value) = plain Done
objects_answer s p t (SetObjectField r field value) = plain Done

-- start or length negative, or their sum over the whole length
abbrev pub is_outside : ℤ → ℤ → ℕ → Bool
is_outside start n whole = int_lt start (pos 0) || (int_lt n (pos 0) || nat_lt whole (natural start + natural n))

abbrev pub or_outside : StatedSetup → Parts → Thrown → Bool → Answer → Answer
or_outside s p kind true a = thrown s p kind
or_outside s p kind false a = a

-- items from start on, so many
abbrev pub region : List ℤ → ℤ → ℤ → Answer
region items start n = plain (Listed (take (natural n) (drop (natural start) items)))

-- (JNI Specification, chapter 4, "String Operations")
abbrev pub strings_answer : StatedSetup → Parts → Tid → StringsCall → Answer
strings_answer s p t (NewString units) = made s p t
strings_answer s p t (NewStringUTF bytes) = made s p t
strings_answer s p t (GetStringLength r) = amount (length_of s p (the_object p t.0 r))
strings_answer s p t (GetStringUTFLength r) = amount (length (spelt (units_of s p (the_object p t.0 r))))
strings_answer s p t (GetStringRegion r start n) =
    or_outside s p StringIndexOutOfBounds (is_outside start n (length (units_of s p (the_object p t.0 r))))
    (region (map pos (units_of s p (the_object p t.0 r))) start n)

-- (JNI Specification, chapter 4, "Array Operations")
abbrev pub arrays_answer : StatedSetup → Parts → Tid → ArraysCall → Answer
arrays_answer s p t (NewArray element n) = made s p t
arrays_answer s p t (GetArrayLength r) = amount (length_of s p (the_object p t.0 r))
arrays_answer s p t (GetArrayRegion element r start n) =
    or_outside s p ArrayIndexOutOfBounds (is_outside start n (length_of s p (the_object p t.0 r)))
    (region (items_of s p (the_object p t.0 r)) start n)
arrays_answer s p t (SetArrayRegion element r start values) =
    or_outside s p ArrayIndexOutOfBounds (is_outside start (pos (length values)) (length_of s p (the_object p t.0 r)))
    (plain Done)
arrays_answer s p t (NewObjectArray n class fill) = made s p t
arrays_answer s p t (GetObjectArrayElement r index) =
    or_outside s p ArrayIndexOutOfBounds (is_outside index (pos 1) (length_of s p (the_object p t.0 r)))
    (handed p t Local (target_in (slot_of s p (the_object p t.0 r) (natural index))))
arrays_answer s p t (SetObjectArrayElement r index value) =
    or_outside s p ArrayIndexOutOfBounds (is_outside index (pos 1) (length_of s p (the_object p t.0 r))) (plain Done)

-- a thread that finds another owner is told so, and doesn't wait here
abbrev pub entered : Entering → Value
entered Entered = Done
entered KeptOut = Busy

-- (JNI Specification, chapter 4, "Monitor Operations")
abbrev pub monitors_answer : Parts → Tid → MonitorsCall → Answer
monitors_answer p t (MonitorEnter r) =
    plain (entered (monitors.entering t.0 (monitors.owner p.monitors (the_object p t.0 r))))
monitors_answer p t (MonitorExit r) = plain Done

-- the thread's next buffer
abbrev pub lent : Parts → Tid → Answer
lent p t = plain (Lent (record { maker = t; n = next_buffer p t.0 }))

-- (JNI Specification, chapter 4, "String Operations", "Array Operations"). That buffers are read and written by calls
-- is this guard's own
abbrev pub buffers_answer : StatedSetup → Parts → Tid → BuffersCall → Answer
buffers_answer s p t (GetArrayElements element r) = lent p t
buffers_answer s p t (ReleaseArrayElements element r b mode) = plain Done
buffers_answer s p t (GetStringChars r) = lent p t
buffers_answer s p t (ReleaseStringChars r b) = plain Done
buffers_answer s p t (GetStringUTFChars r) = lent p t
buffers_answer s p t (ReleaseStringUTFChars r b) = plain Done
buffers_answer s p t (GetPrimitiveArrayCritical r) = lent p t
buffers_answer s p t (ReleasePrimitiveArrayCritical r b mode) = plain Done
buffers_answer s p t (GetStringCritical r) = lent p t
buffers_answer s p t (ReleaseStringCritical r b) = plain Done
buffers_answer s p t (BufferRead b index) = plain (Amount (item_read s p b (natural index) (buffer_named p b)))
buffers_answer s p t (BufferWrite b index value) = plain Done

-- the answer but for a notice
abbrev pub unnoticed : StatedSetup → Parts → Tid → Call → Answer
unnoticed s p t (Vm call) = vm_answer s p t call
unnoticed s p t (Refs call) = refs_answer p t call
unnoticed s p t (Frames call) = frames_answer p t call
unnoticed s p t (Exceptions call) = exceptions_answer p t call
unnoticed s p t (Objects call) = objects_answer s p t call
unnoticed s p t (Strings call) = strings_answer s p t call
unnoticed s p t (Arrays call) = arrays_answer s p t call
unnoticed s p t (Monitors call) = monitors_answer p t call
unnoticed s p t (Buffers call) = buffers_answer s p t call

abbrev pub makes_local : Value → Bool
makes_local (Reference (To Local maker n)) = true
makes_local value = false

abbrev pub with_notice : Bool → Answer → Answer
with_notice b a = record {
  reply = record { value = a.reply.value; warned = a.reply.warned; noticed = b };
  object = a.object;
}

-- the answer hands out a local reference, and just after it the thread's present frame holds more than it has room for
-- (JNI Specification, chapter 4, "Local References")
abbrev pub is_noticed : StatedSetup → Parts → Tid → Call → Answer → Bool
is_noticed s p t call a =
    makes_local a.reply.value && locals.crowded (acts_of t.0 (passed_on s t.0 call a.reply a.object p).locals)

abbrev pub noticed : StatedSetup → Parts → Tid → Call → Answer → Answer
noticed s p t call a = with_notice (is_noticed s p t call a) a

abbrev pub answer : StatedSetup → Parts → Tid → Call → Answer
answer s p t call = noticed s p t call (unnoticed s p t call)
