-- In which way a call breaks a rule. Where a rule has several parts, the first that fails is told.
use Rattle.std.specs.Prelude.{ℕ, ℤ, pos, negsuc, ◌==◌, ◌&&◌, Bool, true, false, not, if◌then◌else◌, List, Option, Some, None}
use Rattle.std.specs.Option.{option_map}
use Rattle.std.specs.List.{find, position}
use Rattle.jg_words.specs.declared.buffer.BufId.{BufId}
use Rattle.jg_words.specs.declared.thread.Tid.{Tid}
use Rattle.jg_words.specs.declared.thread.EnvId.{EnvId}
use Rattle.jg_words.specs.declared.object.FieldId.{FieldId}
use Rattle.jg_words.specs.declared.object.Primitive.{Primitive}
use Rattle.jg_words.specs.declared.object.Primitive.TheVariants.{Boolean, Byte, Char, Short, Int, Long}
use Rattle.jg_words.specs.declared.reference.Ref.{Ref}
use Rattle.jg_words.specs.declared.rule.Rule.{Rule}
use Rattle.jg_words.specs.declared.rule.Rule.TheVariants.{WrongThread, Detached, InCritical, Pending, ForeignLocal, DeadReference, WrongRefKind, NullReference, WrongType, BadField, BadBuffer, BadArgument, Pinned, NotOwner, BadFrame, NoNativeAccess, NotLinked}
use Rattle.jg_words.specs.declared.call.Call.{Call}
use Rattle.jg_words.specs.declared.call.Call.TheVariants.{Vm, Refs, Frames, Exceptions, Objects, Strings, Arrays, Monitors, Buffers}
use Rattle.jg_words.specs.declared.call.vm.VmCall.{VmCall}
use Rattle.jg_words.specs.declared.call.vm.VmCall.TheVariants.{AttachCurrentThread, DetachCurrentThread, GetEnv, NativeEnter, NativeLeave, LoadLibrary, RegisterNatives, UnregisterNatives, Collect}
use Rattle.jg_words.specs.declared.call.frames.FramesCall.{FramesCall}
use Rattle.jg_words.specs.declared.call.frames.FramesCall.TheVariants.{PushLocalFrame, PopLocalFrame, EnsureLocalCapacity}
use Rattle.jg_words.specs.declared.call.objects.ObjectsCall.{ObjectsCall}
use Rattle.jg_words.specs.declared.call.objects.ObjectsCall.TheVariants.{FindClass, GetObjectClass, IsInstanceOf, AllocObject, GetFieldID, GetField, GetObjectField, SetField, SetObjectField}
use Rattle.jg_words.specs.declared.call.strings.StringsCall.{StringsCall}
use Rattle.jg_words.specs.declared.call.strings.StringsCall.TheVariants.{NewString, NewStringUTF, GetStringLength, GetStringUTFLength, GetStringRegion}
use Rattle.jg_words.specs.declared.call.arrays.ArraysCall.{ArraysCall}
use Rattle.jg_words.specs.declared.call.arrays.ArraysCall.TheVariants.{NewArray, GetArrayLength, GetArrayRegion, SetArrayRegion, NewObjectArray, GetObjectArrayElement, SetObjectArrayElement}
use Rattle.jg_words.specs.declared.call.buffers.BuffersCall.{BuffersCall}
use Rattle.jg_words.specs.declared.call.buffers.BuffersCall.TheVariants.{GetArrayElements, ReleaseArrayElements, GetStringChars, ReleaseStringChars, GetStringUTFChars, ReleaseStringUTFChars, GetPrimitiveArrayCritical, ReleasePrimitiveArrayCritical, GetStringCritical, ReleaseStringCritical, BufferRead, BufferWrite}
use Rattle.jg_words.specs.declared.object.ItemType.TheVariants.{Of}
use Rattle.jg_table_buffers.specs.declared.family.Family.{Family}
use Rattle.jg_table_buffers.specs.declared.family.Family.TheVariants.{Elements, Chars, UtfChars, ArrayCritical, StringCritical}
use Rattle.jg_table_buffers.specs.declared.info.Info.{Info}
use Rattle.jg_table_buffers.specs.History as buffers
use Rattle.jg_table_monitors.specs.History as monitors
use Rattle.jg_policy.specs.Stated.{StatedSetup}
use Rattle.jg_policy.specs.Classes.{class_named, field_type}
use Rattle.jg_rules.specs.declared.named.Named.{Named}
use Rattle.jg_rules.specs.declared.named.Named.TheVariants.{Nothing, Null as NamesNull, Object}
use Rattle.jg_rules.specs.declared.operand.Operand.{Operand}
use Rattle.jg_rules.specs.Parts.{Parts}
use Rattle.jg_rules.specs.NativeUse.{native_class, native_use}
use Rattle.jg_rules.specs.Buffers.{buffer_named, is_of_family, is_of_object, is_anothers, is_of_array, is_place, item_type}
use Rattle.jg_rules.specs.Names.{names, object_named, the_object, class_of, pending, native_meant}
use Rattle.jg_rules.specs.Numbers.{is_value_of}
use Rattle.jg_rules.specs.Operands.{operands}
use Rattle.jg_rules.specs.Rules.{is_machine, wrong_caller, is_foreign, is_nothing, is_null, is_wrong, is_field_type, is_not_owned}
use Rattle.jg_breaches.specs.declared.breach.Breach.{Breach}
use Rattle.jg_breaches.specs.declared.breach.Breach.TheVariants as breach
use Rattle.jg_breaches.specs.declared.breach.Argument.TheVariants.{Capacity, Length, Mode, Value}

-- ---- rules 1 to 4

abbrev pub of_caller : Bool → Breach
of_caller true = breach.OnlyForMachine
of_caller false = breach.NotForMachine

abbrev pub of_env : Option EnvId → Breach
of_env None = breach.Unbroken
of_env (Some env) = breach.EnvOfAnother env

-- the thread may not make such a call; or else the environment is another thread's
abbrev pub thread_breach : ℕ → Option EnvId → Bool → Breach
thread_breach t env is_machines = if wrong_caller t is_machines then of_caller is_machines else of_env env

abbrev pub session_breach : Option EnvId → Breach
session_breach None = breach.NoEnv
session_breach (Some env) = breach.NotPresent env

abbrev pub pending_breach : StatedSetup → Parts → Option ℕ → Breach
pending_breach s p None = breach.Unbroken
pending_breach s p (Some o) = breach.ExceptionPending (class_of s p o)

-- ---- rules on one operand

-- the operand breaks the rule, of those rules that speak of one operand each
abbrev pub breaks : StatedSetup → Parts → ℕ → Rule → Operand → Bool
breaks s p t ForeignLocal x = is_foreign t x.reference
breaks s p t DeadReference x = is_nothing (names p t x.reference)
breaks s p t WrongRefKind x = true
breaks s p t NullReference x = not x.nullable && is_null (names p t x.reference)
breaks s p t WrongType x = is_wrong s p x.object_type (names p t x.reference)
breaks s p t Pinned x = buffers.pinned_by p.buffers x.reference
breaks s p t NotOwner x = is_not_owned p t (object_named p t x.reference)
breaks s p t rule x = false

-- the first operand, from left to right, that breaks it
abbrev pub operand_meant : StatedSetup → Parts → ℕ → Call → Rule → Option Operand
operand_meant s p t call rule = find (breaks s p t rule) (operands call)

abbrev owner_of : Parts → ℕ → Option Tid
owner_of p o = option_map (λ u. record { 0 = u }) (monitors.owner p.monitors o)

abbrev pub owner_breach : StatedSetup → Parts → Ref → Option ℕ → Breach
owner_breach s p r None = breach.Unbroken
owner_breach s p r (Some o) = breach.NotOwner r (record { 0 = o }) (class_of s p o) (owner_of p o)

abbrev pub reference_breach : StatedSetup → Parts → ℕ → Rule → Operand → Breach
reference_breach s p t ForeignLocal x = breach.ForeignLocal x.reference
reference_breach s p t DeadReference x = breach.DeadReference x.reference
reference_breach s p t WrongRefKind x = breach.OtherKind x.reference
reference_breach s p t NullReference x = breach.NoObject x.reference
reference_breach s p t WrongType x =
    breach.OtherType x.reference x.object_type (class_of s p (the_object p t x.reference))
reference_breach s p t Pinned x = breach.PinnedReference x.reference
reference_breach s p t NotOwner x = owner_breach s p x.reference (object_named p t x.reference)
reference_breach s p t rule x = breach.Unbroken

abbrev pub operand_breach : StatedSetup → Parts → ℕ → Rule → Option Operand → Breach
operand_breach s p t rule None = breach.Unbroken
operand_breach s p t rule (Some x) = reference_breach s p t rule x

-- ---- rule 10

abbrev pub field_class_breach : StatedSetup → Parts → Ref → FieldId → Named → Breach
field_class_breach s p r f Nothing = breach.Unbroken
field_class_breach s p r f NamesNull = breach.Unbroken
field_class_breach s p r f (Object o) =
    if class_of s p o.0 == f.class then breach.Unbroken else breach.FieldOfOtherClass r f (class_of s p o.0)

abbrev pub field_type_breach : StatedSetup → Parts → ℕ → Option Primitive → Ref → FieldId → Option (List ℕ) → Breach
field_type_breach s p t wanted r f None = breach.NoField r f
field_type_breach s p t wanted r f (Some signature) =
    if is_field_type wanted signature then field_class_breach s p r f (names p t r)
    else breach.FieldOfOtherType r f wanted

abbrev pub field_breach : StatedSetup → Parts → ℕ → Option Primitive → Ref → FieldId → Breach
field_breach s p t wanted r f = field_type_breach s p t wanted r f (field_type s f.class f.field)

abbrev pub objects_field_breach : StatedSetup → Parts → ℕ → ObjectsCall → Breach
objects_field_breach s p t (FindClass name) = breach.Unbroken
objects_field_breach s p t (GetObjectClass r) = breach.Unbroken
objects_field_breach s p t (IsInstanceOf r class) = breach.Unbroken
objects_field_breach s p t (AllocObject class) = breach.Unbroken
objects_field_breach s p t (GetFieldID class field signature) = breach.Unbroken
objects_field_breach s p t (GetField primitive r field) = field_breach s p t (Some primitive) r field
objects_field_breach s p t (GetObjectField r field) = field_breach s p t None r field
objects_field_breach s p t (SetField primitive r field value) = field_breach s p t (Some primitive) r field
objects_field_breach s p t (SetObjectField r field value) = field_breach s p t None r field

abbrev pub bad_field_breach : StatedSetup → Parts → ℕ → Call → Breach
bad_field_breach s p t (Objects call) = objects_field_breach s p t call
bad_field_breach s p t call = breach.Unbroken

-- ---- rule 11

abbrev pub of_release : StatedSetup → Parts → ℕ → Family → Ref → BufId → Option Info → Breach
of_release s p t family r b None = breach.NotOpen b
of_release s p t family r b (Some info) =
    if not (is_of_family family info) then breach.LentOtherwise b info.family
    else if not (is_of_object (object_named p t r) info)
    then breach.OfOtherObject b r (class_of s p info.object.0)
    else if is_anothers t info then breach.OfOtherThread b else breach.Unbroken

abbrev pub release_breach : StatedSetup → Parts → ℕ → Family → Ref → BufId → Breach
release_breach s p t family r b = of_release s p t family r b (buffer_named p b)

abbrev pub of_reading : ℕ → BufId → Option Info → Breach
of_reading t b None = breach.NotOpen b
of_reading t b (Some info) = if is_anothers t info then breach.OfOtherThread b else breach.Unbroken

abbrev pub of_writing : ℕ → BufId → Option Info → Breach
of_writing t b None = breach.NotOpen b
of_writing t b (Some info) =
    if not (is_of_array info.family) then breach.OfString b
    else if is_anothers t info then breach.OfOtherThread b else breach.Unbroken

abbrev pub buffers_buffer_breach : StatedSetup → Parts → ℕ → BuffersCall → Breach
buffers_buffer_breach s p t (GetArrayElements element r) = breach.Unbroken
buffers_buffer_breach s p t (ReleaseArrayElements element r b mode) = release_breach s p t (Elements (Of element)) r b
buffers_buffer_breach s p t (GetStringChars r) = breach.Unbroken
buffers_buffer_breach s p t (ReleaseStringChars r b) = release_breach s p t Chars r b
buffers_buffer_breach s p t (GetStringUTFChars r) = breach.Unbroken
buffers_buffer_breach s p t (ReleaseStringUTFChars r b) = release_breach s p t UtfChars r b
buffers_buffer_breach s p t (GetPrimitiveArrayCritical r) = breach.Unbroken
buffers_buffer_breach s p t (ReleasePrimitiveArrayCritical r b mode) = release_breach s p t ArrayCritical r b
buffers_buffer_breach s p t (GetStringCritical r) = breach.Unbroken
buffers_buffer_breach s p t (ReleaseStringCritical r b) = release_breach s p t StringCritical r b
buffers_buffer_breach s p t (BufferRead b index) = of_reading t b (buffer_named p b)
buffers_buffer_breach s p t (BufferWrite b index value) = of_writing t b (buffer_named p b)

abbrev pub bad_buffer_breach : StatedSetup → Parts → ℕ → Call → Breach
bad_buffer_breach s p t (Buffers call) = buffers_buffer_breach s p t call
bad_buffer_breach s p t call = breach.Unbroken

-- ---- rule 12

-- the least and the greatest value of the primitive type (JNI Specification, chapter 3, "Primitive Types")
abbrev pub least_of : Primitive → ℤ
least_of Boolean = pos 0
least_of Byte = negsuc 127
least_of Char = pos 0
least_of Short = negsuc 32767
least_of Int = negsuc 2147483647
least_of Long = negsuc 9223372036854775807

abbrev pub most_of : Primitive → ℤ
most_of Boolean = pos 1
most_of Byte = pos 127
most_of Char = pos 65535
most_of Short = pos 32767
most_of Int = pos 2147483647
most_of Long = pos 9223372036854775807

abbrev pub value_breach : Primitive → ℤ → Breach
value_breach primitive value = breach.OutOfRange Value value (least_of primitive) (most_of primitive)

abbrev pub misfits : Primitive → ℤ → Bool
misfits element v = not (is_value_of element v)

abbrev pub item_breach : Primitive → Option ℕ → Option ℤ → Breach
item_breach element None value = breach.Unbroken
item_breach element (Some place) None = breach.Unbroken
item_breach element (Some place) (Some value) =
    breach.ItemOutOfRange place value (least_of element) (most_of element)

-- the first item that isn't of the type
abbrev pub items_breach : Primitive → List ℤ → Breach
items_breach element items = item_breach element (position (misfits element) items) (find (misfits element) items)

abbrev pub vm_argument_breach : VmCall → Breach
vm_argument_breach AttachCurrentThread = breach.Unbroken
vm_argument_breach DetachCurrentThread = breach.Unbroken
vm_argument_breach GetEnv = breach.Unbroken
vm_argument_breach (NativeEnter class method signature) = breach.NoClass
vm_argument_breach (NativeLeave kept) = breach.Unbroken
vm_argument_breach (LoadLibrary class library) = breach.NoClass
vm_argument_breach (RegisterNatives class method signature) = breach.Unbroken
vm_argument_breach (UnregisterNatives class) = breach.Unbroken
vm_argument_breach Collect = breach.Unbroken

abbrev pub frames_argument_breach : FramesCall → Breach
frames_argument_breach (PushLocalFrame capacity) = breach.OutOfRange Capacity capacity (pos 0) (pos 65535)
frames_argument_breach (PopLocalFrame r) = breach.Unbroken
frames_argument_breach (EnsureLocalCapacity capacity) = breach.OutOfRange Capacity capacity (pos 0) (pos 65535)

abbrev pub objects_argument_breach : ObjectsCall → Breach
objects_argument_breach (FindClass name) = breach.Unbroken
objects_argument_breach (GetObjectClass r) = breach.Unbroken
objects_argument_breach (IsInstanceOf r class) = breach.Unbroken
objects_argument_breach (AllocObject class) = breach.Unbroken
objects_argument_breach (GetFieldID class field signature) = breach.Unbroken
objects_argument_breach (GetField primitive r field) = breach.Unbroken
objects_argument_breach (GetObjectField r field) = breach.Unbroken
objects_argument_breach (SetField primitive r field value) = value_breach primitive value
objects_argument_breach (SetObjectField r field value) = breach.Unbroken

abbrev pub strings_argument_breach : StringsCall → Breach
strings_argument_breach (NewString units) = items_breach Char units
strings_argument_breach (NewStringUTF bytes) = breach.NotModifiedUtf8
strings_argument_breach (GetStringLength r) = breach.Unbroken
strings_argument_breach (GetStringUTFLength r) = breach.Unbroken
strings_argument_breach (GetStringRegion r start n) = breach.TooLong n

abbrev pub arrays_argument_breach : ArraysCall → Breach
arrays_argument_breach (NewArray element n) = breach.OutOfRange Length n (pos 0) (pos 1000000)
arrays_argument_breach (GetArrayLength r) = breach.Unbroken
arrays_argument_breach (GetArrayRegion element r start n) = breach.TooLong n
arrays_argument_breach (SetArrayRegion element r start values) = items_breach element values
arrays_argument_breach (NewObjectArray n class fill) = breach.OutOfRange Length n (pos 0) (pos 1000000)
arrays_argument_breach (GetObjectArrayElement r index) = breach.Unbroken
arrays_argument_breach (SetObjectArrayElement r index value) = breach.Unbroken

abbrev mode_breach : ℤ → Breach
mode_breach mode = breach.OutOfRange Mode mode (pos 0) (pos 2)

abbrev pub of_index : BufId → ℤ → Option Info → Breach
of_index b index None = breach.Unbroken
of_index b index (Some info) = breach.NoItem b index info.length

abbrev pub of_item_type : ℤ → Option Primitive → Breach
of_item_type value None = breach.Unbroken
of_item_type value (Some element) = value_breach element value

abbrev pub of_item : StatedSetup → Parts → BufId → ℤ → ℤ → Option Info → Breach
of_item s p b index value None = breach.Unbroken
of_item s p b index value (Some info) =
    if is_place index info.length then of_item_type value (item_type s p info info.family)
    else breach.NoItem b index info.length

abbrev pub buffers_argument_breach : StatedSetup → Parts → BuffersCall → Breach
buffers_argument_breach s p (GetArrayElements element r) = breach.Unbroken
buffers_argument_breach s p (ReleaseArrayElements element r b mode) = mode_breach mode
buffers_argument_breach s p (GetStringChars r) = breach.Unbroken
buffers_argument_breach s p (ReleaseStringChars r b) = breach.Unbroken
buffers_argument_breach s p (GetStringUTFChars r) = breach.Unbroken
buffers_argument_breach s p (ReleaseStringUTFChars r b) = breach.Unbroken
buffers_argument_breach s p (GetPrimitiveArrayCritical r) = breach.Unbroken
buffers_argument_breach s p (ReleasePrimitiveArrayCritical r b mode) = mode_breach mode
buffers_argument_breach s p (GetStringCritical r) = breach.Unbroken
buffers_argument_breach s p (ReleaseStringCritical r b) = breach.Unbroken
buffers_argument_breach s p (BufferRead b index) = of_index b index (buffer_named p b)
buffers_argument_breach s p (BufferWrite b index value) = of_item s p b index value (buffer_named p b)

abbrev pub argument_breach : StatedSetup → Parts → Call → Breach
argument_breach s p (Vm call) = vm_argument_breach call
argument_breach s p (Refs call) = breach.Unbroken
argument_breach s p (Frames call) = frames_argument_breach call
argument_breach s p (Exceptions call) = breach.Unbroken
argument_breach s p (Objects call) = objects_argument_breach call
argument_breach s p (Strings call) = strings_argument_breach call
argument_breach s p (Arrays call) = arrays_argument_breach call
argument_breach s p (Monitors call) = breach.Unbroken
argument_breach s p (Buffers call) = buffers_argument_breach s p call

-- ---- rules 15 to 17

abbrev vm_frame_breach : VmCall → Breach
vm_frame_breach DetachCurrentThread = breach.StillInNative
vm_frame_breach (NativeLeave kept) = breach.NotInNative
vm_frame_breach call = breach.Unbroken

abbrev pub frame_breach : Call → Breach
frame_breach (Vm call) = vm_frame_breach call
frame_breach (Frames call) = breach.NoFrame
frame_breach call = breach.Unbroken

abbrev pub access_breach : Call → Option ℕ → Breach
access_breach call None = breach.Unbroken
access_breach call (Some class) = breach.AccessRefused class (native_use call)

abbrev pub native_breach : Option ℕ → Option ℕ → Breach
native_breach None native = breach.Unbroken
native_breach (Some class) None = breach.NoNative class
native_breach (Some class) (Some native) = breach.NotLinked class native

abbrev pub vm_link_breach : StatedSetup → VmCall → Breach
vm_link_breach s (NativeEnter class method signature) =
    native_breach (class_named s class) (native_meant s (class_named s class) method signature)
vm_link_breach s call = breach.Unbroken

abbrev pub link_breach : StatedSetup → Call → Breach
link_breach s (Vm call) = vm_link_breach s call
link_breach s call = breach.Unbroken

-- in which way the call, of which this is the first broken rule, breaks it
abbrev pub breach_of : StatedSetup → Parts → Tid → Option EnvId → Call → Rule → Breach
breach_of s p t env call WrongThread = thread_breach t.0 env (is_machine call)
breach_of s p t env call Detached = session_breach env
breach_of s p t env call InCritical = breach.InRegion
breach_of s p t env call Pending = pending_breach s p (pending p t.0)
breach_of s p t env call BadField = bad_field_breach s p t.0 call
breach_of s p t env call BadBuffer = bad_buffer_breach s p t.0 call
breach_of s p t env call BadArgument = argument_breach s p call
breach_of s p t env call BadFrame = frame_breach call
breach_of s p t env call NoNativeAccess = access_breach call (native_class s p t.0 call)
breach_of s p t env call NotLinked = link_breach s call
breach_of s p t env call rule = operand_breach s p t.0 rule (operand_meant s p t.0 call rule)
