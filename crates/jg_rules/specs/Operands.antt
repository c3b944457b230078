-- The references among a call's operands, from left to right, with the type that the object of each must have.
use Rattle.std.specs.Prelude.{ℕ, ◌==◌, ◌&&◌, ◌||◌, Bool, true, false, nat_le, nat_lt, List, [], ◌∷◌}
use Rattle.jg_words.specs.declared.reference.Ref.{Ref}
use Rattle.jg_words.specs.declared.call.Call.{Call}
use Rattle.jg_words.specs.declared.call.Call.TheVariants.{Vm, Refs, Frames, Exceptions, Objects, Strings, Arrays, Monitors, Buffers}
use Rattle.jg_words.specs.declared.call.vm.VmCall.{VmCall}
use Rattle.jg_words.specs.declared.call.vm.VmCall.TheVariants.{AttachCurrentThread, DetachCurrentThread, GetEnv, NativeEnter, NativeLeave, LoadLibrary, RegisterNatives, UnregisterNatives, Collect}
use Rattle.jg_words.specs.declared.call.refs.RefsCall.{RefsCall}
use Rattle.jg_words.specs.declared.call.refs.RefsCall.TheVariants.{NewLocalRef, NewGlobalRef, NewWeakGlobalRef, DeleteLocalRef, DeleteGlobalRef, DeleteWeakGlobalRef, IsSameObject, GetObjectRefType}
use Rattle.jg_words.specs.declared.call.frames.FramesCall.{FramesCall}
use Rattle.jg_words.specs.declared.call.frames.FramesCall.TheVariants.{PushLocalFrame, PopLocalFrame, EnsureLocalCapacity}
use Rattle.jg_words.specs.declared.call.exceptions.ExceptionsCall.{ExceptionsCall}
use Rattle.jg_words.specs.declared.call.exceptions.ExceptionsCall.TheVariants.{Throw, ExceptionOccurred, ExceptionDescribe, ExceptionClear, ExceptionCheck}
use Rattle.jg_words.specs.declared.call.objects.ObjectsCall.{ObjectsCall}
use Rattle.jg_words.specs.declared.call.objects.ObjectsCall.TheVariants.{FindClass, GetObjectClass, IsInstanceOf, AllocObject, GetFieldID, GetField, GetObjectField, SetField, SetObjectField}
use Rattle.jg_words.specs.declared.call.strings.StringsCall.{StringsCall}
use Rattle.jg_words.specs.declared.call.strings.StringsCall.TheVariants.{NewString, NewStringUTF, GetStringLength, GetStringUTFLength, GetStringRegion}
use Rattle.jg_words.specs.declared.call.arrays.ArraysCall.{ArraysCall}
use Rattle.jg_words.specs.declared.call.arrays.ArraysCall.TheVariants.{NewArray, GetArrayLength, GetArrayRegion, SetArrayRegion, NewObjectArray, GetObjectArrayElement, SetObjectArrayElement}
use Rattle.jg_words.specs.declared.call.monitors.MonitorsCall.{MonitorsCall}
use Rattle.jg_words.specs.declared.call.monitors.MonitorsCall.TheVariants.{MonitorEnter, MonitorExit}
use Rattle.jg_words.specs.declared.call.buffers.BuffersCall.{BuffersCall}
use Rattle.jg_words.specs.declared.call.buffers.BuffersCall.TheVariants.{GetArrayElements, ReleaseArrayElements, GetStringChars, ReleaseStringChars, GetStringUTFChars, ReleaseStringUTFChars, GetPrimitiveArrayCritical, ReleasePrimitiveArrayCritical, GetStringCritical, ReleaseStringCritical, BufferRead, BufferWrite}
use Rattle.jg_policy.specs.Stated.{StatedSetup, class_count}
use Rattle.jg_policy.specs.Classes.{is_throwable}
use Rattle.jg_words.specs.Classes.{array_class}
use Rattle.jg_rules.specs.declared.operand.ObjectType.{ObjectType}
use Rattle.jg_rules.specs.declared.operand.ObjectType.TheVariants.{AnyObject, ClassObject, PlainClass, ThrowableObject, StringObject, AnyArray, PrimitiveArray, ArrayOf, ObjectArray}
use Rattle.jg_rules.specs.declared.operand.Operand.{Operand}
use Rattle.jg_rules.specs.Parts.{Parts}
use Rattle.jg_rules.specs.Names.{class_of}

abbrev pub required : Ref → ObjectType → Operand
required r type = record { reference = r; nullable = false; object_type = type }

abbrev pub optional : Ref → Operand
optional r = record { reference = r; nullable = true; object_type = AnyObject }

abbrev pub vm_operands : VmCall → List Operand
vm_operands AttachCurrentThread = []
vm_operands DetachCurrentThread = []
vm_operands GetEnv = []
vm_operands (NativeEnter class method signature) = []
vm_operands (NativeLeave kept) = optional kept ∷ []
vm_operands (LoadLibrary class library) = []
vm_operands (RegisterNatives class method signature) = required class ClassObject ∷ []
vm_operands (UnregisterNatives class) = required class ClassObject ∷ []
vm_operands Collect = []

-- GetObjectRefType takes any reference, dead or alive
abbrev pub refs_operands : RefsCall → List Operand
refs_operands (NewLocalRef r) = optional r ∷ []
refs_operands (NewGlobalRef r) = optional r ∷ []
refs_operands (NewWeakGlobalRef r) = optional r ∷ []
refs_operands (DeleteLocalRef r) = optional r ∷ []
refs_operands (DeleteGlobalRef r) = optional r ∷ []
refs_operands (DeleteWeakGlobalRef r) = optional r ∷ []
refs_operands (IsSameObject r u) = optional r ∷ optional u ∷ []
refs_operands (GetObjectRefType r) = []

abbrev pub frames_operands : FramesCall → List Operand
frames_operands (PushLocalFrame capacity) = []
frames_operands (PopLocalFrame r) = optional r ∷ []
frames_operands (EnsureLocalCapacity capacity) = []

abbrev pub exceptions_operands : ExceptionsCall → List Operand
exceptions_operands (Throw r) = required r ThrowableObject ∷ []
exceptions_operands ExceptionOccurred = []
exceptions_operands ExceptionDescribe = []
exceptions_operands ExceptionClear = []
exceptions_operands ExceptionCheck = []

abbrev pub objects_operands : ObjectsCall → List Operand
objects_operands (FindClass name) = []
objects_operands (GetObjectClass r) = required r AnyObject ∷ []
objects_operands (IsInstanceOf r class) = optional r ∷ required class ClassObject ∷ []
objects_operands (AllocObject class) = required class PlainClass ∷ []
objects_operands (GetFieldID class field signature) = required class ClassObject ∷ []
objects_operands (GetField primitive r field) = required r AnyObject ∷ []
objects_operands (GetObjectField r field) = required r AnyObject ∷ []
objects_operands (SetField primitive r field value) = required r AnyObject ∷ []
objects_operands (SetObjectField r field value) = required r AnyObject ∷ optional value ∷ []

abbrev pub strings_operands : StringsCall → List Operand
strings_operands (NewString units) = []
strings_operands (NewStringUTF bytes) = []
strings_operands (GetStringLength r) = required r StringObject ∷ []
strings_operands (GetStringUTFLength r) = required r StringObject ∷ []
strings_operands (GetStringRegion r start n) = required r StringObject ∷ []

abbrev pub arrays_operands : ArraysCall → List Operand
arrays_operands (NewArray element n) = []
arrays_operands (GetArrayLength r) = required r AnyArray ∷ []
arrays_operands (GetArrayRegion element r start n) = required r (ArrayOf element) ∷ []
arrays_operands (SetArrayRegion element r start values) = required r (ArrayOf element) ∷ []
arrays_operands (NewObjectArray n class fill) = required class ClassObject ∷ optional fill ∷ []
arrays_operands (GetObjectArrayElement r index) = required r ObjectArray ∷ []
arrays_operands (SetObjectArrayElement r index value) = required r ObjectArray ∷ optional value ∷ []

abbrev pub monitors_operands : MonitorsCall → List Operand
monitors_operands (MonitorEnter r) = required r AnyObject ∷ []
monitors_operands (MonitorExit r) = required r AnyObject ∷ []

abbrev pub buffers_operands : BuffersCall → List Operand
buffers_operands (GetArrayElements element r) = required r (ArrayOf element) ∷ []
buffers_operands (ReleaseArrayElements element r b mode) = required r (ArrayOf element) ∷ []
buffers_operands (GetStringChars r) = required r StringObject ∷ []
buffers_operands (ReleaseStringChars r b) = required r StringObject ∷ []
buffers_operands (GetStringUTFChars r) = required r StringObject ∷ []
buffers_operands (ReleaseStringUTFChars r b) = required r StringObject ∷ []
buffers_operands (GetPrimitiveArrayCritical r) = required r PrimitiveArray ∷ []
buffers_operands (ReleasePrimitiveArrayCritical r b mode) = required r PrimitiveArray ∷ []
buffers_operands (GetStringCritical r) = required r StringObject ∷ []
buffers_operands (ReleaseStringCritical r b) = required r StringObject ∷ []
buffers_operands (BufferRead b index) = []
buffers_operands (BufferWrite b index value) = []

abbrev pub operands : Call → List Operand
operands (Vm call) = vm_operands call
operands (Refs call) = refs_operands call
operands (Frames call) = frames_operands call
operands (Exceptions call) = exceptions_operands call
operands (Objects call) = objects_operands call
operands (Strings call) = strings_operands call
operands (Arrays call) = arrays_operands call
operands (Monitors call) = monitors_operands call
operands (Buffers call) = buffers_operands call

-- the object is a class object whose class has instances that can be made without a constructor's arguments: neither
-- java/lang/Class, nor java/lang/String, nor a class of arrays. A class object has the number of its class
abbrev pub is_plain : StatedSetup → ℕ → Bool
is_plain s o = (o == 0) || (nat_le 10 o && nat_lt o (class_count s))

-- the object is of the type: 1 is java/lang/Class, 2 java/lang/String, 3 the class of all arrays of references, and 4
-- to 9 are those of arrays of the primitive types
abbrev pub is_of : StatedSetup → Parts → ObjectType → ℕ → Bool
is_of s p AnyObject o = true
is_of s p ClassObject o = class_of s p o == 1
is_of s p PlainClass o = is_plain s o
is_of s p ThrowableObject o = is_throwable s (class_of s p o)
is_of s p StringObject o = class_of s p o == 2
is_of s p AnyArray o = nat_le 3 (class_of s p o) && nat_le (class_of s p o) 9
is_of s p PrimitiveArray o = nat_le 4 (class_of s p o) && nat_le (class_of s p o) 9
is_of s p (ArrayOf element) o = class_of s p o == array_class element
is_of s p ObjectArray o = class_of s p o == 3
