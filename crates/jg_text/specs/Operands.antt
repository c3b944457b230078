-- What operands each function takes, what a call's are, and which of them its types can hold.
use Rattle.std.specs.Prelude.{ℕ, List, [], ◌∷◌, map}
use Rattle.std.specs.List.{AllByRecursion}
use Rattle.jg_words.specs.declared.fun.Fun.{Fun}
use Rattle.jg_words.specs.declared.fun.Fun.TheVariants as fun
use Rattle.jg_words.specs.declared.fun.vm.VmFun.{VmFun}
use Rattle.jg_words.specs.declared.fun.vm.VmFun.TheVariants as vm
use Rattle.jg_words.specs.declared.fun.refs.RefsFun.{RefsFun}
use Rattle.jg_words.specs.declared.fun.refs.RefsFun.TheVariants as refs
use Rattle.jg_words.specs.declared.fun.frames.FramesFun.{FramesFun}
use Rattle.jg_words.specs.declared.fun.frames.FramesFun.TheVariants as frames
use Rattle.jg_words.specs.declared.fun.exceptions.ExceptionsFun.{ExceptionsFun}
use Rattle.jg_words.specs.declared.fun.exceptions.ExceptionsFun.TheVariants as exceptions
use Rattle.jg_words.specs.declared.fun.objects.ObjectsFun.{ObjectsFun}
use Rattle.jg_words.specs.declared.fun.objects.ObjectsFun.TheVariants as objects
use Rattle.jg_words.specs.declared.fun.strings.StringsFun.{StringsFun}
use Rattle.jg_words.specs.declared.fun.strings.StringsFun.TheVariants as strings
use Rattle.jg_words.specs.declared.fun.arrays.ArraysFun.{ArraysFun}
use Rattle.jg_words.specs.declared.fun.arrays.ArraysFun.TheVariants as arrays
use Rattle.jg_words.specs.declared.fun.monitors.MonitorsFun.{MonitorsFun}
use Rattle.jg_words.specs.declared.fun.monitors.MonitorsFun.TheVariants as monitors
use Rattle.jg_words.specs.declared.fun.buffers.BuffersFun.{BuffersFun}
use Rattle.jg_words.specs.declared.fun.buffers.BuffersFun.TheVariants as buffers
use Rattle.jg_words.specs.declared.call.Call.{Call}
use Rattle.jg_words.specs.declared.call.Call.TheVariants.{Vm, Refs, Frames, Exceptions, Objects, Strings, Arrays, Monitors, Buffers}
use Rattle.jg_words.specs.declared.call.vm.VmCall.{VmCall}
use Rattle.jg_words.specs.declared.call.vm.VmCall.TheVariants.{AttachCurrentThread, DetachCurrentThread, GetEnv, NativeEnter, NativeLeave, LoadLibrary, RegisterNatives, UnregisterNatives, Collect}
use Rattle.jg_words.specs.declared.call.refs.RefsCall.{RefsCall}
use Rattle.jg_words.specs.declared.call.refs.RefsCall.TheVariants.{NewLocalRef, NewGlobalRef, NewWeakGlobalRef, DeleteLocalRef, DeleteGlobalRef, DeleteWeakGlobalRef, IsSameObject, GetObjectRefType}
use Rattle.jg_words.specs.declared.call.frames.FramesCall.{FramesCall}
use Rattle.jg_words.specs.declared.call.frames.FramesCall.TheVariants.{PushLocalFrame, PopLocalFrame, EnsureLocalCapacity}
use Rattle.jg_words.specs.declared.call.exceptions.ExceptionsCall.{ExceptionsCall}
use Rattle.jg_words.specs.declared.call.exceptions.ExceptionsCall.TheVariants.{Throw, ExceptionOccurred, ExceptionDescribe, ExceptionClear, ExceptionCheck}
use Rattle.jg_words.specs.declared.call.objects.ObjectsCall.{ObjectsCall}
use Rattle.jg_words.specs.declared.call.objects.ObjectsCall.TheVariants.{FindClass, GetObjectClass, IsInstanceOf, AllocObject, GetFieldID, GetField, GetObjectField, SetField, SetObjectField}
use Rattle.jg_words.specs.declared.call.strings.StringsCall.{StringsCall}
use Rattle.jg_words.specs.declared.call.strings.StringsCall.TheVariants.{NewString, NewStringUTF, GetStringLength, GetStringUTFLength, GetStringRegion}
use Rattle.jg_words.specs.declared.call.arrays.ArraysCall.{ArraysCall}
use Rattle.jg_words.specs.declared.call.arrays.ArraysCall.TheVariants.{NewArray, GetArrayLength, GetArrayRegion, SetArrayRegion, NewObjectArray, GetObjectArrayElement, SetObjectArrayElement}
use Rattle.jg_words.specs.declared.call.monitors.MonitorsCall.{MonitorsCall}
use Rattle.jg_words.specs.declared.call.monitors.MonitorsCall.TheVariants.{MonitorEnter, MonitorExit}
use Rattle.jg_words.specs.declared.call.buffers.BuffersCall.{BuffersCall}
use Rattle.jg_words.specs.declared.call.buffers.BuffersCall.TheVariants.{GetArrayElements, ReleaseArrayElements, GetStringChars, ReleaseStringChars, GetStringUTFChars, ReleaseStringUTFChars, GetPrimitiveArrayCritical, ReleasePrimitiveArrayCritical, GetStringCritical, ReleaseStringCritical, BufferRead, BufferWrite}
use Rattle.jg_text.specs.Words.{Word, of_ref, of_number, of_long_number, of_items, of_name, of_field, of_buffer, text_of, FitsWord}
use Rattle.jg_text.specs.Kinds.{OperandKind, Reference, Number, LongNumber, Numbers, Name, Field, Buffer}

-- the operands of each function, from left to right; the type of a family over the primitive types is part of the
-- function's name, and no operand
abbrev pub vm_kinds : VmFun → List OperandKind
vm_kinds vm.AttachCurrentThread = []
vm_kinds vm.DetachCurrentThread = []
vm_kinds vm.GetEnv = []
vm_kinds vm.NativeEnter = Name ∷ Name ∷ Name ∷ []
vm_kinds vm.NativeLeave = Reference ∷ []
vm_kinds vm.LoadLibrary = Name ∷ Name ∷ []
vm_kinds vm.RegisterNatives = Reference ∷ Name ∷ Name ∷ []
vm_kinds vm.UnregisterNatives = Reference ∷ []
vm_kinds vm.Collect = []

abbrev pub refs_kinds : RefsFun → List OperandKind
refs_kinds refs.NewLocalRef = Reference ∷ []
refs_kinds refs.NewGlobalRef = Reference ∷ []
refs_kinds refs.NewWeakGlobalRef = Reference ∷ []
refs_kinds refs.DeleteLocalRef = Reference ∷ []
refs_kinds refs.DeleteGlobalRef = Reference ∷ []
refs_kinds refs.DeleteWeakGlobalRef = Reference ∷ []
refs_kinds refs.IsSameObject = Reference ∷ Reference ∷ []
refs_kinds refs.GetObjectRefType = Reference ∷ []

abbrev pub frames_kinds : FramesFun → List OperandKind
frames_kinds frames.PushLocalFrame = Number ∷ []
frames_kinds frames.PopLocalFrame = Reference ∷ []
frames_kinds frames.EnsureLocalCapacity = Number ∷ []

abbrev pub exceptions_kinds : ExceptionsFun → List OperandKind
exceptions_kinds exceptions.Throw = Reference ∷ []
exceptions_kinds exceptions.ExceptionOccurred = []
exceptions_kinds exceptions.ExceptionDescribe = []
exceptions_kinds exceptions.ExceptionClear = []
exceptions_kinds exceptions.ExceptionCheck = []

abbrev pub objects_kinds : ObjectsFun → List OperandKind
objects_kinds objects.FindClass = Name ∷ []
objects_kinds objects.GetObjectClass = Reference ∷ []
objects_kinds objects.IsInstanceOf = Reference ∷ Reference ∷ []
objects_kinds objects.AllocObject = Reference ∷ []
objects_kinds objects.GetFieldID = Reference ∷ Name ∷ Name ∷ []
objects_kinds (objects.GetField primitive) = Reference ∷ Field ∷ []
objects_kinds objects.GetObjectField = Reference ∷ Field ∷ []
objects_kinds (objects.SetField primitive) = Reference ∷ Field ∷ LongNumber ∷ []
objects_kinds objects.SetObjectField = Reference ∷ Field ∷ Reference ∷ []

abbrev pub strings_kinds : StringsFun → List OperandKind
strings_kinds strings.NewString = Numbers ∷ []
strings_kinds strings.NewStringUTF = Numbers ∷ []
strings_kinds strings.GetStringLength = Reference ∷ []
strings_kinds strings.GetStringUTFLength = Reference ∷ []
strings_kinds strings.GetStringRegion = Reference ∷ Number ∷ Number ∷ []

abbrev pub arrays_kinds : ArraysFun → List OperandKind
arrays_kinds (arrays.NewArray element) = Number ∷ []
arrays_kinds arrays.GetArrayLength = Reference ∷ []
arrays_kinds (arrays.GetArrayRegion element) = Reference ∷ Number ∷ Number ∷ []
arrays_kinds (arrays.SetArrayRegion element) = Reference ∷ Number ∷ Numbers ∷ []
arrays_kinds arrays.NewObjectArray = Number ∷ Reference ∷ Reference ∷ []
arrays_kinds arrays.GetObjectArrayElement = Reference ∷ Number ∷ []
arrays_kinds arrays.SetObjectArrayElement = Reference ∷ Number ∷ Reference ∷ []

abbrev pub monitors_kinds : MonitorsFun → List OperandKind
monitors_kinds monitors.MonitorEnter = Reference ∷ []
monitors_kinds monitors.MonitorExit = Reference ∷ []

abbrev pub buffers_kinds : BuffersFun → List OperandKind
buffers_kinds (buffers.GetArrayElements element) = Reference ∷ []
buffers_kinds (buffers.ReleaseArrayElements element) = Reference ∷ Buffer ∷ Number ∷ []
buffers_kinds buffers.GetStringChars = Reference ∷ []
buffers_kinds buffers.ReleaseStringChars = Reference ∷ Buffer ∷ []
buffers_kinds buffers.GetStringUTFChars = Reference ∷ []
buffers_kinds buffers.ReleaseStringUTFChars = Reference ∷ Buffer ∷ []
buffers_kinds buffers.GetPrimitiveArrayCritical = Reference ∷ []
buffers_kinds buffers.ReleasePrimitiveArrayCritical = Reference ∷ Buffer ∷ Number ∷ []
buffers_kinds buffers.GetStringCritical = Reference ∷ []
buffers_kinds buffers.ReleaseStringCritical = Reference ∷ Buffer ∷ []
buffers_kinds buffers.BufferRead = Buffer ∷ Number ∷ []
buffers_kinds buffers.BufferWrite = Buffer ∷ Number ∷ LongNumber ∷ []

abbrev pub operand_kinds : Fun → List OperandKind
operand_kinds (fun.Vm f) = vm_kinds f
operand_kinds (fun.Refs f) = refs_kinds f
operand_kinds (fun.Frames f) = frames_kinds f
operand_kinds (fun.Exceptions f) = exceptions_kinds f
operand_kinds (fun.Objects f) = objects_kinds f
operand_kinds (fun.Strings f) = strings_kinds f
operand_kinds (fun.Arrays f) = arrays_kinds f
operand_kinds (fun.Monitors f) = monitors_kinds f
operand_kinds (fun.Buffers f) = buffers_kinds f

-- the operands of a call, from left to right
abbrev pub vm_operands : VmCall → List Word
vm_operands AttachCurrentThread = []
vm_operands DetachCurrentThread = []
vm_operands GetEnv = []
vm_operands (NativeEnter class method signature) = of_name class ∷ of_name method ∷ of_name signature ∷ []
vm_operands (NativeLeave kept) = of_ref kept ∷ []
vm_operands (LoadLibrary class library) = of_name class ∷ of_name library ∷ []
vm_operands (RegisterNatives class method signature) = of_ref class ∷ of_name method ∷ of_name signature ∷ []
vm_operands (UnregisterNatives class) = of_ref class ∷ []
vm_operands Collect = []

abbrev pub refs_operands : RefsCall → List Word
refs_operands (NewLocalRef r) = of_ref r ∷ []
refs_operands (NewGlobalRef r) = of_ref r ∷ []
refs_operands (NewWeakGlobalRef r) = of_ref r ∷ []
refs_operands (DeleteLocalRef r) = of_ref r ∷ []
refs_operands (DeleteGlobalRef r) = of_ref r ∷ []
refs_operands (DeleteWeakGlobalRef r) = of_ref r ∷ []
refs_operands (IsSameObject r q) = of_ref r ∷ of_ref q ∷ []
refs_operands (GetObjectRefType r) = of_ref r ∷ []

abbrev pub frames_operands : FramesCall → List Word
frames_operands (PushLocalFrame capacity) = of_number capacity ∷ []
frames_operands (PopLocalFrame kept) = of_ref kept ∷ []
frames_operands (EnsureLocalCapacity capacity) = of_number capacity ∷ []

abbrev pub exceptions_operands : ExceptionsCall → List Word
exceptions_operands (Throw exception) = of_ref exception ∷ []
exceptions_operands ExceptionOccurred = []
exceptions_operands ExceptionDescribe = []
exceptions_operands ExceptionClear = []
exceptions_operands ExceptionCheck = []

abbrev pub objects_operands : ObjectsCall → List Word
objects_operands (FindClass name) = of_name name ∷ []
objects_operands (GetObjectClass object) = of_ref object ∷ []
objects_operands (IsInstanceOf object class) = of_ref object ∷ of_ref class ∷ []
objects_operands (AllocObject class) = of_ref class ∷ []
objects_operands (GetFieldID class field signature) = of_ref class ∷ of_name field ∷ of_name signature ∷ []
objects_operands (GetField primitive object field) = of_ref object ∷ of_field field ∷ []
objects_operands (GetObjectField object field) = of_ref object ∷ of_field field ∷ []
objects_operands (SetField primitive object field value) = of_ref object ∷ of_field field ∷ of_long_number value ∷ []
objects_operands (SetObjectField object field value) = of_ref object ∷ of_field field ∷ of_ref value ∷ []

abbrev pub strings_operands : StringsCall → List Word
strings_operands (NewString units) = of_items units ∷ []
strings_operands (NewStringUTF bytes) = of_items bytes ∷ []
strings_operands (GetStringLength string) = of_ref string ∷ []
strings_operands (GetStringUTFLength string) = of_ref string ∷ []
strings_operands (GetStringRegion string start length) = of_ref string ∷ of_number start ∷ of_number length ∷ []

abbrev pub arrays_operands : ArraysCall → List Word
arrays_operands (NewArray element length) = of_number length ∷ []
arrays_operands (GetArrayLength array) = of_ref array ∷ []
arrays_operands (GetArrayRegion element array start length) = of_ref array ∷ of_number start ∷ of_number length ∷ []
arrays_operands (SetArrayRegion element array start values) = of_ref array ∷ of_number start ∷ of_items values ∷ []
arrays_operands (NewObjectArray length class fill) = of_number length ∷ of_ref class ∷ of_ref fill ∷ []
arrays_operands (GetObjectArrayElement array index) = of_ref array ∷ of_number index ∷ []
arrays_operands (SetObjectArrayElement array index value) = of_ref array ∷ of_number index ∷ of_ref value ∷ []

abbrev pub monitors_operands : MonitorsCall → List Word
monitors_operands (MonitorEnter r) = of_ref r ∷ []
monitors_operands (MonitorExit r) = of_ref r ∷ []

abbrev pub buffers_operands : BuffersCall → List Word
buffers_operands (GetArrayElements element array) = of_ref array ∷ []
buffers_operands (ReleaseArrayElements element array buffer mode) =
    of_ref array ∷ of_buffer buffer ∷ of_number mode ∷ []
buffers_operands (GetStringChars string) = of_ref string ∷ []
buffers_operands (ReleaseStringChars string buffer) = of_ref string ∷ of_buffer buffer ∷ []
buffers_operands (GetStringUTFChars string) = of_ref string ∷ []
buffers_operands (ReleaseStringUTFChars string buffer) = of_ref string ∷ of_buffer buffer ∷ []
buffers_operands (GetPrimitiveArrayCritical array) = of_ref array ∷ []
buffers_operands (ReleasePrimitiveArrayCritical array buffer mode) =
    of_ref array ∷ of_buffer buffer ∷ of_number mode ∷ []
buffers_operands (GetStringCritical string) = of_ref string ∷ []
buffers_operands (ReleaseStringCritical string buffer) = of_ref string ∷ of_buffer buffer ∷ []
buffers_operands (BufferRead buffer index) = of_buffer buffer ∷ of_number index ∷ []
buffers_operands (BufferWrite buffer index value) = of_buffer buffer ∷ of_number index ∷ of_long_number value ∷ []

abbrev pub operands : Call → List Word
operands (Vm c) = vm_operands c
operands (Refs c) = refs_operands c
operands (Frames c) = frames_operands c
operands (Exceptions c) = exceptions_operands c
operands (Objects c) = objects_operands c
operands (Strings c) = strings_operands c
operands (Arrays c) = arrays_operands c
operands (Monitors c) = monitors_operands c
operands (Buffers c) = buffers_operands c

-- how a call's operands are spelt
abbrev pub operand_texts : Call → List (List ℕ)
operand_texts c = map text_of (operands c)

-- its types can hold them
abbrev pub FitsCall : Call → Type 0
FitsCall c = AllByRecursion FitsWord (operands c)
