-- The rules, each as its own definition, and the first that a call breaks.
use Rattle.std.specs.Prelude.{ℕ, ℤ, pos, ◌==◌, ◌&&◌, ◌||◌, Bool, true, false, not, nat_lt, int_lt, List, [], ◌∷◌, Option, Some, None, codes}
use Rattle.std.specs.List.{list_any, list_all, find}
use Rattle.jg_words.specs.Call.{fun_of}
use Rattle.jg_words.specs.Fun.{needs_env}
use Rattle.jg_words.specs.declared.thread.EnvId.{EnvId}
use Rattle.jg_words.specs.declared.reference.Kind.{Kind}
use Rattle.jg_words.specs.declared.reference.Kind.TheVariants.{Local, Global, Weak}
use Rattle.jg_words.specs.declared.reference.Ref.{Ref}
use Rattle.jg_words.specs.declared.reference.Ref.TheVariants.{Null, To}
use Rattle.jg_words.specs.declared.rule.Rule.{Rule}
use Rattle.jg_words.specs.declared.rule.Rule.TheVariants.{WrongThread, Detached, InCritical, Pending, ForeignLocal, DeadReference, WrongRefKind, NullReference, WrongType, BadField, BadBuffer, BadArgument, Pinned, NotOwner, BadFrame, NoNativeAccess, NotLinked}
use Rattle.jg_words.specs.declared.call.Call.{Call}
use Rattle.jg_words.specs.declared.call.Call.TheVariants.{Vm, Refs, Frames, Exceptions, Objects, Strings, Arrays, Monitors, Buffers}
use Rattle.jg_words.specs.declared.call.vm.VmCall.{VmCall}
use Rattle.jg_words.specs.declared.call.vm.VmCall.TheVariants.{AttachCurrentThread, DetachCurrentThread, GetEnv, NativeEnter, NativeLeave, LoadLibrary, RegisterNatives, UnregisterNatives, Collect}
use Rattle.jg_words.specs.declared.call.refs.RefsCall.{RefsCall}
use Rattle.jg_words.specs.declared.call.refs.RefsCall.TheVariants.{NewLocalRef, NewGlobalRef, NewWeakGlobalRef, DeleteLocalRef, DeleteGlobalRef, DeleteWeakGlobalRef, IsSameObject, GetObjectRefType}
use Rattle.jg_words.specs.declared.call.frames.FramesCall.{FramesCall}
use Rattle.jg_words.specs.declared.call.frames.FramesCall.TheVariants.{PushLocalFrame, PopLocalFrame, EnsureLocalCapacity}
use Rattle.jg_words.specs.declared.call.objects.ObjectsCall.{ObjectsCall}
use Rattle.jg_words.specs.declared.call.objects.ObjectsCall.TheVariants.{FindClass, GetObjectClass, IsInstanceOf, AllocObject, GetFieldID, GetField, GetObjectField, SetField, SetObjectField}
use Rattle.jg_words.specs.declared.call.strings.StringsCall.{StringsCall}
use Rattle.jg_words.specs.declared.call.strings.StringsCall.TheVariants.{NewString, NewStringUTF, GetStringLength, GetStringUTFLength, GetStringRegion}
use Rattle.jg_words.specs.declared.call.arrays.ArraysCall.{ArraysCall}
use Rattle.jg_words.specs.declared.call.arrays.ArraysCall.TheVariants.{NewArray, GetArrayLength, GetArrayRegion, SetArrayRegion, NewObjectArray, GetObjectArrayElement, SetObjectArrayElement}
use Rattle.jg_words.specs.declared.call.monitors.MonitorsCall.{MonitorsCall}
use Rattle.jg_words.specs.declared.call.monitors.MonitorsCall.TheVariants.{MonitorEnter, MonitorExit}
use Rattle.jg_words.specs.declared.call.buffers.BuffersCall.{BuffersCall}
use Rattle.jg_words.specs.declared.call.buffers.BuffersCall.TheVariants.{GetArrayElements, ReleaseArrayElements, GetStringChars, ReleaseStringChars, GetStringUTFChars, ReleaseStringUTFChars, GetPrimitiveArrayCritical, ReleasePrimitiveArrayCritical, GetStringCritical, ReleaseStringCritical, BufferRead, BufferWrite}
use Rattle.jg_words.specs.declared.buffer.BufId.{BufId}
use Rattle.jg_table_buffers.specs.declared.family.Family.{Family}
use Rattle.jg_table_buffers.specs.declared.family.Family.TheVariants.{Elements, Chars, UtfChars, ArrayCritical, StringCritical}
use Rattle.jg_table_buffers.specs.declared.info.Info.{Info}
use Rattle.jg_policy.specs.Stated.{StatedSetup}
use Rattle.jg_policy.specs.Classes.{class_named, field_type, is_class_type}
use Rattle.jg_policy.specs.Links as links
use Rattle.jg_rules.specs.declared.named.Named.{Named}
use Rattle.jg_rules.specs.declared.named.Named.TheVariants.{Nothing, Null as NamesNull, Object}
use Rattle.jg_rules.specs.declared.operand.ObjectType.{ObjectType}
use Rattle.jg_rules.specs.Parts.{Parts}
use Rattle.jg_rules.specs.Numbers.{is_within, is_value_of}
use Rattle.jg_table_heap.specs.Reading.{decoded}
use Rattle.jg_words.specs.declared.object.FieldId.{FieldId}
use Rattle.jg_words.specs.declared.object.Primitive.{Primitive}
use Rattle.jg_words.specs.declared.object.Primitive.TheVariants.{Boolean, Byte, Char, Short, Int, Long}
use Rattle.std.specs.Option.{is_some, is_none}
use Rattle.std.specs.Str.{bytes_eq}
use Rattle.jg_table_buffers.specs.History as buffers
use Rattle.jg_table_monitors.specs.History as monitors
use Rattle.jg_rules.specs.NativeUse.{native_class, native_use, refuses}
use Rattle.jg_words.specs.MayCall.{passes_critical, passes_pending}
use Rattle.jg_words.specs.declared.object.ItemType.TheVariants.{Of}
use Rattle.jg_rules.specs.Names.{names, session, depth, open_frames, pending, class_of, native_meant, object_named}
use Rattle.jg_rules.specs.Operands.{operands, is_of}
use Rattle.jg_rules.specs.Buffers.{buffer_named, is_open_and, is_of_family, is_of_object, is_anothers, is_of_array, is_mode, is_place, item_type, is_value_of_type}

abbrev pub of_another : ℕ → Option EnvId → Bool
of_another t None = false
of_another t (Some env) = not (env.tid.0 == t)

-- the virtual machine itself collects
abbrev pub vm_is_machine : VmCall → Bool
vm_is_machine AttachCurrentThread = false
vm_is_machine DetachCurrentThread = false
vm_is_machine GetEnv = false
vm_is_machine (NativeEnter class method signature) = false
vm_is_machine (NativeLeave kept) = false
vm_is_machine (LoadLibrary class library) = false
vm_is_machine (RegisterNatives class method signature) = false
vm_is_machine (UnregisterNatives class) = false
vm_is_machine Collect = true

-- and calls nothing else
abbrev pub is_machine : Call → Bool
is_machine (Vm call) = vm_is_machine call
is_machine (Refs call) = false
is_machine (Frames call) = false
is_machine (Exceptions call) = false
is_machine (Objects call) = false
is_machine (Strings call) = false
is_machine (Arrays call) = false
is_machine (Monitors call) = false
is_machine (Buffers call) = false

-- thread 0 stands for the virtual machine itself
abbrev pub wrong_caller : ℕ → Bool → Bool
wrong_caller t true = not (t == 0)
wrong_caller t false = t == 0

-- 1: a call of thread 0 that is none of the virtual machine's own, or one of those from another thread; or an
-- environment of another thread (JNI Specification, chapter 2, "JNI Interface Functions and Pointers": a JNIEnv is
-- valid in its own thread alone)
abbrev pub wrong_thread : ℕ → Option EnvId → Call → Bool
wrong_thread t env call = wrong_caller t (is_machine call) || of_another t env

abbrev pub is_session : Option ℕ → ℕ → Bool
is_session None n = false
is_session (Some m) n = m == n

-- 2: no environment where one is taken, or not the caller's present session (JNI Specification, chapter 5, attachment)
abbrev pub detached : Parts → ℕ → Option EnvId → Call → Bool
detached p t None call = needs_env (fun_of call)
detached p t (Some env) call = not ((env.tid.0 == t) && is_session (session p t) env.session)

-- 3: inside a critical region: the caller has an open critical buffer
abbrev pub in_critical : Parts → ℕ → Call → Bool
in_critical p t call = not (passes_critical (fun_of call)) && buffers.in_critical p.buffers t

-- 4: with an exception pending
abbrev pub while_pending : Parts → ℕ → Call → Bool
while_pending p t call = not (passes_pending (fun_of call)) && is_some (pending p t)

abbrev pub is_foreign : ℕ → Ref → Bool
is_foreign t (To Local maker n) = not (maker.0 == t)
is_foreign t r = false

-- 5: a local reference whose maker isn't the caller (JNI Specification, chapter 2, "Local References")
abbrev pub foreign_local : ℕ → Call → Bool
foreign_local t call = list_any (λ x. is_foreign t x.reference) (operands call)

abbrev pub is_nothing : Named → Bool
is_nothing Nothing = true
is_nothing NamesNull = false
is_nothing (Object o) = false

-- 6: a reference that was never made or has ended (JNI Specification, chapter 2, "Global and Local References")
abbrev pub dead_reference : Parts → ℕ → Call → Bool
dead_reference p t call = list_any (λ x. is_nothing (names p t x.reference)) (operands call)

-- null is of each kind
abbrev pub is_not : Kind → Ref → Bool
is_not kind Null = false
is_not Local (To Local maker n) = false
is_not Local (To Global maker n) = true
is_not Local (To Weak maker n) = true
is_not Global (To Local maker n) = true
is_not Global (To Global maker n) = false
is_not Global (To Weak maker n) = true
is_not Weak (To Local maker n) = true
is_not Weak (To Global maker n) = true
is_not Weak (To Weak maker n) = false

abbrev pub refs_wrong_kind : RefsCall → Bool
refs_wrong_kind (NewLocalRef r) = false
refs_wrong_kind (NewGlobalRef r) = false
refs_wrong_kind (NewWeakGlobalRef r) = false
refs_wrong_kind (DeleteLocalRef r) = is_not Local r
refs_wrong_kind (DeleteGlobalRef r) = is_not Global r
refs_wrong_kind (DeleteWeakGlobalRef r) = is_not Weak r
refs_wrong_kind (IsSameObject r u) = false
refs_wrong_kind (GetObjectRefType r) = false

-- 7: the deletion of a reference of another kind (JNI Specification, chapter 4, "Global and Local References")
abbrev pub wrong_kind : Call → Bool
wrong_kind (Vm call) = false
wrong_kind (Refs call) = refs_wrong_kind call
wrong_kind (Frames call) = false
wrong_kind (Exceptions call) = false
wrong_kind (Objects call) = false
wrong_kind (Strings call) = false
wrong_kind (Arrays call) = false
wrong_kind (Monitors call) = false
wrong_kind (Buffers call) = false

abbrev pub is_null : Named → Bool
is_null Nothing = false
is_null NamesNull = true
is_null (Object o) = false

-- 8: null where an object is wanted
abbrev pub null_reference : Parts → ℕ → Call → Bool
null_reference p t call = list_any (λ x. not x.nullable && is_null (names p t x.reference)) (operands call)

-- the object is not of the operand's type; a reference that names no object doesn't break this rule
abbrev pub is_wrong : StatedSetup → Parts → ObjectType → Named → Bool
is_wrong s p type Nothing = false
is_wrong s p type NamesNull = false
is_wrong s p type (Object o) = not (is_of s p type o.0)

-- 9: an object of another type
abbrev pub wrong_type : StatedSetup → Parts → ℕ → Call → Bool
wrong_type s p t call = list_any (λ x. is_wrong s p x.object_type (names p t x.reference)) (operands call)

-- the type that a field of a primitive type has (JNI Specification, chapter 3, "Type Signatures")
abbrev pub type_letter : Primitive → List ℕ
type_letter Boolean = codes "Z"
type_letter Byte = codes "B"
type_letter Char = codes "C"
type_letter Short = codes "S"
type_letter Int = codes "I"
type_letter Long = codes "J"

-- the type of the fields that a function reads or writes: a primitive type, or, where none is named, any class
abbrev pub is_field_type : Option Primitive → List ℕ → Bool
is_field_type None signature = is_class_type signature
is_field_type (Some primitive) signature = bytes_eq signature (type_letter primitive)

-- the setup states the field, and it is of the function's type
abbrev pub is_stated_as : Option Primitive → Option (List ℕ) → Bool
is_stated_as wanted None = false
is_stated_as wanted (Some signature) = is_field_type wanted signature

-- the object is of that class; a reference that names no object doesn't break this rule
abbrev pub is_of_class : StatedSetup → Parts → ℕ → Named → Bool
is_of_class s p class Nothing = true
is_of_class s p class NamesNull = true
is_of_class s p class (Object o) = class_of s p o.0 == class

abbrev pub field_of_another : StatedSetup → Parts → ℕ → Option Primitive → Ref → FieldId → Bool
field_of_another s p t wanted r f =
    not (is_stated_as wanted (field_type s f.class f.field) && is_of_class s p f.class (names p t r))

abbrev pub objects_bad_field : StatedSetup → Parts → ℕ → ObjectsCall → Bool
objects_bad_field s p t (FindClass name) = false
objects_bad_field s p t (GetObjectClass r) = false
objects_bad_field s p t (IsInstanceOf r class) = false
objects_bad_field s p t (AllocObject class) = false
objects_bad_field s p t (GetFieldID class field signature) = false
objects_bad_field s p t (GetField primitive r field) = field_of_another s p t (Some primitive) r field
objects_bad_field s p t (GetObjectField r field) = field_of_another s p t None r field
objects_bad_field s p t (SetField primitive r field value) = field_of_another s p t (Some primitive) r field
objects_bad_field s p t (SetObjectField r field value) = field_of_another s p t None r field

-- 10: a field ID that names no field of the setup, one of another class than the object's, or one that isn't of the
-- function's type (JNI Specification, chapter 4, "Accessing Fields of Objects")
abbrev pub bad_field : StatedSetup → Parts → ℕ → Call → Bool
bad_field s p t (Vm call) = false
bad_field s p t (Refs call) = false
bad_field s p t (Frames call) = false
bad_field s p t (Exceptions call) = false
bad_field s p t (Objects call) = objects_bad_field s p t call
bad_field s p t (Strings call) = false
bad_field s p t (Arrays call) = false
bad_field s p t (Monitors call) = false
bad_field s p t (Buffers call) = false

-- the buffer is open, of the function's family and of the reference's object, and no critical one of another thread
abbrev pub is_releasable : Parts → ℕ → Family → Ref → BufId → Bool
is_releasable p t family r b =
    is_open_and (λ x. is_of_family family x && (is_of_object (object_named p t r) x && not (is_anothers t x)))
    (buffer_named p b)

abbrev pub is_readable : Parts → ℕ → BufId → Bool
is_readable p t b = is_open_and (λ x. not (is_anothers t x)) (buffer_named p b)

abbrev pub is_writable : Parts → ℕ → BufId → Bool
is_writable p t b = is_open_and (λ x. is_of_array x.family && not (is_anothers t x)) (buffer_named p b)

abbrev pub buffers_bad_buffer : Parts → ℕ → BuffersCall → Bool
buffers_bad_buffer p t (GetArrayElements element r) = false
buffers_bad_buffer p t (ReleaseArrayElements element r b mode) = not (is_releasable p t (Elements (Of element)) r b)
buffers_bad_buffer p t (GetStringChars r) = false
buffers_bad_buffer p t (ReleaseStringChars r b) = not (is_releasable p t Chars r b)
buffers_bad_buffer p t (GetStringUTFChars r) = false
buffers_bad_buffer p t (ReleaseStringUTFChars r b) = not (is_releasable p t UtfChars r b)
buffers_bad_buffer p t (GetPrimitiveArrayCritical r) = false
buffers_bad_buffer p t (ReleasePrimitiveArrayCritical r b mode) = not (is_releasable p t ArrayCritical r b)
buffers_bad_buffer p t (GetStringCritical r) = false
buffers_bad_buffer p t (ReleaseStringCritical r b) = not (is_releasable p t StringCritical r b)
buffers_bad_buffer p t (BufferRead b index) = not (is_readable p t b)
buffers_bad_buffer p t (BufferWrite b index value) = not (is_writable p t b)

-- 11: a buffer that isn't open, or isn't the call's: released by another function than its own, with another object,
-- or, being critical, used by another thread; or a string's buffer that is written (JNI Specification, chapter 4,
-- "String Operations", "Array Operations")
abbrev pub bad_buffer : Parts → ℕ → Call → Bool
bad_buffer p t (Vm call) = false
bad_buffer p t (Refs call) = false
bad_buffer p t (Frames call) = false
bad_buffer p t (Exceptions call) = false
bad_buffer p t (Objects call) = false
bad_buffer p t (Strings call) = false
bad_buffer p t (Arrays call) = false
bad_buffer p t (Monitors call) = false
bad_buffer p t (Buffers call) = buffers_bad_buffer p t call

abbrev pub vm_bad_argument : StatedSetup → VmCall → Bool
vm_bad_argument s AttachCurrentThread = false
vm_bad_argument s DetachCurrentThread = false
vm_bad_argument s GetEnv = false
vm_bad_argument s (NativeEnter class method signature) = is_none (class_named s class)
vm_bad_argument s (NativeLeave kept) = false
vm_bad_argument s (LoadLibrary class library) = is_none (class_named s class)
vm_bad_argument s (RegisterNatives class method signature) = false
vm_bad_argument s (UnregisterNatives class) = false
vm_bad_argument s Collect = false

abbrev pub frames_bad_argument : FramesCall → Bool
frames_bad_argument (PushLocalFrame capacity) = not (is_within (pos 0) (pos 65535) capacity)
frames_bad_argument (PopLocalFrame r) = false
frames_bad_argument (EnsureLocalCapacity capacity) = not (is_within (pos 0) (pos 65535) capacity)

abbrev pub objects_bad_argument : ObjectsCall → Bool
objects_bad_argument (FindClass name) = false
objects_bad_argument (GetObjectClass r) = false
objects_bad_argument (IsInstanceOf r class) = false
objects_bad_argument (AllocObject class) = false
objects_bad_argument (GetFieldID class field signature) = false
objects_bad_argument (GetField primitive r field) = false
objects_bad_argument (GetObjectField r field) = false
objects_bad_argument (SetField primitive r field value) = not (is_value_of primitive value)
objects_bad_argument (SetObjectField r field value) = false

-- a region of more items than a list may have
abbrev pub is_long : ℤ → Bool
is_long n = int_lt (pos 1000) n

abbrev pub strings_bad_argument : StringsCall → Bool
strings_bad_argument (NewString units) = not (list_all (is_value_of Char) units)
strings_bad_argument (NewStringUTF bytes) = is_none (decoded bytes)
strings_bad_argument (GetStringLength r) = false
strings_bad_argument (GetStringUTFLength r) = false
strings_bad_argument (GetStringRegion r start n) = is_long n

-- how many items an array may have
abbrev pub is_size : ℤ → Bool
is_size n = is_within (pos 0) (pos 1000000) n

abbrev pub arrays_bad_argument : ArraysCall → Bool
arrays_bad_argument (NewArray element n) = not (is_size n)
arrays_bad_argument (GetArrayLength r) = false
arrays_bad_argument (GetArrayRegion element r start n) = is_long n
arrays_bad_argument (SetArrayRegion element r start values) = not (list_all (is_value_of element) values)
arrays_bad_argument (NewObjectArray n class fill) = not (is_size n)
arrays_bad_argument (GetObjectArrayElement r index) = false
arrays_bad_argument (SetObjectArrayElement r index value) = false

abbrev pub is_outside_of : ℤ → Option Info → Bool
is_outside_of index None = false
is_outside_of index (Some info) = not (is_place index info.length)

-- the buffer has no such place, or can't hold the number
abbrev pub is_wrong_item : StatedSetup → Parts → ℤ → ℤ → Option Info → Bool
is_wrong_item s p index v None = false
is_wrong_item s p index v (Some info) =
    not (is_place index info.length && is_value_of_type (item_type s p info info.family) v)

abbrev pub buffers_bad_argument : StatedSetup → Parts → BuffersCall → Bool
buffers_bad_argument s p (GetArrayElements element r) = false
buffers_bad_argument s p (ReleaseArrayElements element r b mode) = not (is_mode mode)
buffers_bad_argument s p (GetStringChars r) = false
buffers_bad_argument s p (ReleaseStringChars r b) = false
buffers_bad_argument s p (GetStringUTFChars r) = false
buffers_bad_argument s p (ReleaseStringUTFChars r b) = false
buffers_bad_argument s p (GetPrimitiveArrayCritical r) = false
buffers_bad_argument s p (ReleasePrimitiveArrayCritical r b mode) = not (is_mode mode)
buffers_bad_argument s p (GetStringCritical r) = false
buffers_bad_argument s p (ReleaseStringCritical r b) = false
buffers_bad_argument s p (BufferRead b index) = is_outside_of index (buffer_named p b)
buffers_bad_argument s p (BufferWrite b index value) = is_wrong_item s p index value (buffer_named p b)

-- 12: a capacity below 0 or above 65,535; an array's length below 0 or above 1,000,000; a region of more than 1,000
-- items; a unit, an item or a field's value that isn't of its type; bytes that are no modified UTF-8; the name of no
-- class where a native method is entered or a library loaded; another mode of a release than its three; a place that a
-- buffer doesn't have (JNI Specification, chapter 4, PushLocalFrame, "Accessing Fields of Objects", "String
-- Operations", "Array Operations"; chapter 3, "Modified UTF-8 Strings")
abbrev pub bad_argument : StatedSetup → Parts → Call → Bool
bad_argument s p (Vm call) = vm_bad_argument s call
bad_argument s p (Refs call) = false
bad_argument s p (Frames call) = frames_bad_argument call
bad_argument s p (Exceptions call) = false
bad_argument s p (Objects call) = objects_bad_argument call
bad_argument s p (Strings call) = strings_bad_argument call
bad_argument s p (Arrays call) = arrays_bad_argument call
bad_argument s p (Monitors call) = false
bad_argument s p (Buffers call) = buffers_bad_argument s p call

abbrev pub refs_pinned : Parts → RefsCall → Bool
refs_pinned p (NewLocalRef r) = false
refs_pinned p (NewGlobalRef r) = false
refs_pinned p (NewWeakGlobalRef r) = false
refs_pinned p (DeleteLocalRef r) = false
refs_pinned p (DeleteGlobalRef r) = buffers.pinned_by p.buffers r
refs_pinned p (DeleteWeakGlobalRef r) = buffers.pinned_by p.buffers r
refs_pinned p (IsSameObject r u) = false
refs_pinned p (GetObjectRefType r) = false

-- 13: a global or weak reference deleted through which a critical buffer is open
abbrev pub pinned : Parts → Call → Bool
pinned p (Vm call) = false
pinned p (Refs call) = refs_pinned p call
pinned p (Frames call) = false
pinned p (Exceptions call) = false
pinned p (Objects call) = false
pinned p (Strings call) = false
pinned p (Arrays call) = false
pinned p (Monitors call) = false
pinned p (Buffers call) = false

abbrev pub is_by : ℕ → Option ℕ → Bool
is_by t None = false
is_by t (Some owner) = owner == t

-- another thread owns the object's monitor, or none does; a reference that names no object doesn't break this rule
abbrev pub is_not_owned : Parts → ℕ → Option ℕ → Bool
is_not_owned p t None = false
is_not_owned p t (Some o) = not (is_by t (monitors.owner p.monitors o))

abbrev pub monitors_not_owner : Parts → ℕ → MonitorsCall → Bool
monitors_not_owner p t (MonitorEnter r) = false
monitors_not_owner p t (MonitorExit r) = is_not_owned p t (object_named p t r)

-- 14: a monitor exited that isn't the caller's (JNI Specification, chapter 4, "Monitor Operations")
abbrev pub not_owner : Parts → ℕ → Call → Bool
not_owner p t (Vm call) = false
not_owner p t (Refs call) = false
not_owner p t (Frames call) = false
not_owner p t (Exceptions call) = false
not_owner p t (Objects call) = false
not_owner p t (Strings call) = false
not_owner p t (Arrays call) = false
not_owner p t (Monitors call) = monitors_not_owner p t call
not_owner p t (Buffers call) = false

abbrev pub vm_bad_frame : Parts → ℕ → VmCall → Bool
vm_bad_frame p t AttachCurrentThread = false
vm_bad_frame p t DetachCurrentThread = nat_lt 0 (depth p t)
vm_bad_frame p t GetEnv = false
vm_bad_frame p t (NativeEnter class method signature) = false
vm_bad_frame p t (NativeLeave kept) = depth p t == 0
vm_bad_frame p t (LoadLibrary class library) = false
vm_bad_frame p t (RegisterNatives class method signature) = false
vm_bad_frame p t (UnregisterNatives class) = false
vm_bad_frame p t Collect = false

abbrev pub frames_bad_frame : Parts → ℕ → FramesCall → Bool
frames_bad_frame p t (PushLocalFrame capacity) = false
frames_bad_frame p t (PopLocalFrame r) = open_frames p t == 0
frames_bad_frame p t (EnsureLocalCapacity capacity) = false

-- 15: no frame to pop at this depth (JNI Specification, chapter 4, PopLocalFrame); no native method to leave;
-- a detachment with native methods on the stack (chapter 5, "Detaching from the VM")
abbrev pub bad_frame : Parts → ℕ → Call → Bool
bad_frame p t (Vm call) = vm_bad_frame p t call
bad_frame p t (Refs call) = false
bad_frame p t (Frames call) = frames_bad_frame p t call
bad_frame p t (Exceptions call) = false
bad_frame p t (Objects call) = false
bad_frame p t (Strings call) = false
bad_frame p t (Arrays call) = false
bad_frame p t (Monitors call) = false
bad_frame p t (Buffers call) = false

-- 16: refused native access (JEP 472)
abbrev pub no_access : StatedSetup → Parts → ℕ → Call → Bool
no_access s p t call = refuses s (native_use call) (native_class s p t call)

-- the class's native method is linked
abbrev pub is_linked : Parts → Option ℕ → Option ℕ → Bool
is_linked p None native = false
is_linked p (Some class) None = false
is_linked p (Some class) (Some native) = links.linked p.links class native

abbrev pub vm_not_linked : StatedSetup → Parts → VmCall → Bool
vm_not_linked s p AttachCurrentThread = false
vm_not_linked s p DetachCurrentThread = false
vm_not_linked s p GetEnv = false
vm_not_linked s p (NativeEnter class method signature) =
    not (is_linked p (class_named s class) (native_meant s (class_named s class) method signature))
vm_not_linked s p (NativeLeave kept) = false
vm_not_linked s p (LoadLibrary class library) = false
vm_not_linked s p (RegisterNatives class method signature) = false
vm_not_linked s p (UnregisterNatives class) = false
vm_not_linked s p Collect = false

-- 17: a native method entered that isn't linked (JNI Specification, chapter 4, "Registering Native Methods")
abbrev pub not_linked : StatedSetup → Parts → Call → Bool
not_linked s p (Vm call) = vm_not_linked s p call
not_linked s p (Refs call) = false
not_linked s p (Frames call) = false
not_linked s p (Exceptions call) = false
not_linked s p (Objects call) = false
not_linked s p (Strings call) = false
not_linked s p (Arrays call) = false
not_linked s p (Monitors call) = false
not_linked s p (Buffers call) = false

-- the call breaks the rule
abbrev pub broken : Rule → StatedSetup → Parts → ℕ → Option EnvId → Call → Bool
broken WrongThread s p t env call = wrong_thread t env call
broken Detached s p t env call = detached p t env call
broken InCritical s p t env call = in_critical p t call
broken Pending s p t env call = while_pending p t call
broken ForeignLocal s p t env call = foreign_local t call
broken DeadReference s p t env call = dead_reference p t call
broken WrongRefKind s p t env call = wrong_kind call
broken NullReference s p t env call = null_reference p t call
broken WrongType s p t env call = wrong_type s p t call
broken BadField s p t env call = bad_field s p t call
broken BadBuffer s p t env call = bad_buffer p t call
broken BadArgument s p t env call = bad_argument s p call
broken Pinned s p t env call = pinned p call
broken NotOwner s p t env call = not_owner p t call
broken BadFrame s p t env call = bad_frame p t call
broken NoNativeAccess s p t env call = no_access s p t call
broken NotLinked s p t env call = not_linked s p call

-- the rules in their order
abbrev pub rules_in_order : List Rule
rules_in_order =
    WrongThread ∷ Detached ∷ InCritical ∷ Pending ∷ ForeignLocal ∷ DeadReference ∷ WrongRefKind ∷ NullReference
    ∷ WrongType ∷ BadField ∷ BadBuffer ∷ BadArgument ∷ Pinned ∷ NotOwner ∷ BadFrame ∷ NoNativeAccess ∷ NotLinked ∷ []

-- the first rule that the call breaks
abbrev pub verdict : StatedSetup → Parts → ℕ → Option EnvId → Call → Option Rule
verdict s p t env call = find (λ rule. broken rule s p t env call) rules_in_order
