-- The functions' names, and which take an environment.
use Rattle.std.specs.Prelude.{ℕ, List, [], ◌∷◌, Option, codes, find, nat_eq, Bool, true, false}
use Rattle.std.specs.Cmp.Lexicographic.{pointwise}
use Rattle.jg_words.specs.declared.object.Primitive.TheVariants.{Boolean, Byte, Char, Short, Int, Long}
use Rattle.jg_words.specs.declared.fun.Fun.{Fun}
use Rattle.jg_words.specs.declared.fun.Fun.TheVariants.{Vm, Refs, Frames, Exceptions, Objects, Strings, Arrays, Monitors, Buffers}
use Rattle.jg_words.specs.declared.fun.vm.VmFun.{VmFun}
use Rattle.jg_words.specs.declared.fun.vm.VmFun.TheVariants.{AttachCurrentThread, DetachCurrentThread, GetEnv, NativeEnter, NativeLeave, LoadLibrary, RegisterNatives, UnregisterNatives, Collect}
use Rattle.jg_words.specs.declared.fun.refs.RefsFun.{RefsFun}
use Rattle.jg_words.specs.declared.fun.refs.RefsFun.TheVariants.{NewLocalRef, NewGlobalRef, NewWeakGlobalRef, DeleteLocalRef, DeleteGlobalRef, DeleteWeakGlobalRef, IsSameObject, GetObjectRefType}
use Rattle.jg_words.specs.declared.fun.frames.FramesFun.{FramesFun}
use Rattle.jg_words.specs.declared.fun.frames.FramesFun.TheVariants.{PushLocalFrame, PopLocalFrame, EnsureLocalCapacity}
use Rattle.jg_words.specs.declared.fun.exceptions.ExceptionsFun.{ExceptionsFun}
use Rattle.jg_words.specs.declared.fun.exceptions.ExceptionsFun.TheVariants.{Throw, ExceptionOccurred, ExceptionDescribe, ExceptionClear, ExceptionCheck}
use Rattle.jg_words.specs.declared.fun.objects.ObjectsFun.{ObjectsFun}
use Rattle.jg_words.specs.declared.fun.objects.ObjectsFun.TheVariants.{FindClass, GetObjectClass, IsInstanceOf, AllocObject, GetFieldID, GetField, GetObjectField, SetField, SetObjectField}
use Rattle.jg_words.specs.declared.fun.strings.StringsFun.{StringsFun}
use Rattle.jg_words.specs.declared.fun.strings.StringsFun.TheVariants.{NewString, NewStringUTF, GetStringLength, GetStringUTFLength, GetStringRegion}
use Rattle.jg_words.specs.declared.fun.arrays.ArraysFun.{ArraysFun}
use Rattle.jg_words.specs.declared.fun.arrays.ArraysFun.TheVariants.{NewArray, GetArrayLength, GetArrayRegion, SetArrayRegion, NewObjectArray, GetObjectArrayElement, SetObjectArrayElement}
use Rattle.jg_words.specs.declared.fun.monitors.MonitorsFun.{MonitorsFun}
use Rattle.jg_words.specs.declared.fun.monitors.MonitorsFun.TheVariants.{MonitorEnter, MonitorExit}
use Rattle.jg_words.specs.declared.fun.buffers.BuffersFun.{BuffersFun}
use Rattle.jg_words.specs.declared.fun.buffers.BuffersFun.TheVariants.{GetArrayElements, ReleaseArrayElements, GetStringChars, ReleaseStringChars, GetStringUTFChars, ReleaseStringUTFChars, GetPrimitiveArrayCritical, ReleasePrimitiveArrayCritical, GetStringCritical, ReleaseStringCritical, BufferRead, BufferWrite}

abbrev pub vm_name : VmFun → List ℕ
vm_name AttachCurrentThread = codes "AttachCurrentThread"
vm_name DetachCurrentThread = codes "DetachCurrentThread"
vm_name GetEnv = codes "GetEnv"
vm_name NativeEnter = codes "NativeEnter"
vm_name NativeLeave = codes "NativeLeave"
vm_name LoadLibrary = codes "LoadLibrary"
vm_name RegisterNatives = codes "RegisterNatives"
vm_name UnregisterNatives = codes "UnregisterNatives"
vm_name Collect = codes "Collect"

abbrev pub refs_name : RefsFun → List ℕ
refs_name NewLocalRef = codes "NewLocalRef"
refs_name NewGlobalRef = codes "NewGlobalRef"
refs_name NewWeakGlobalRef = codes "NewWeakGlobalRef"
refs_name DeleteLocalRef = codes "DeleteLocalRef"
refs_name DeleteGlobalRef = codes "DeleteGlobalRef"
refs_name DeleteWeakGlobalRef = codes "DeleteWeakGlobalRef"
refs_name IsSameObject = codes "IsSameObject"
refs_name GetObjectRefType = codes "GetObjectRefType"

abbrev pub frames_name : FramesFun → List ℕ
frames_name PushLocalFrame = codes "PushLocalFrame"
frames_name PopLocalFrame = codes "PopLocalFrame"
frames_name EnsureLocalCapacity = codes "EnsureLocalCapacity"

abbrev pub exceptions_name : ExceptionsFun → List ℕ
exceptions_name Throw = codes "Throw"
exceptions_name ExceptionOccurred = codes "ExceptionOccurred"
exceptions_name ExceptionDescribe = codes "ExceptionDescribe"
exceptions_name ExceptionClear = codes "ExceptionClear"
exceptions_name ExceptionCheck = codes "ExceptionCheck"

abbrev pub objects_name : ObjectsFun → List ℕ
objects_name FindClass = codes "FindClass"
objects_name GetObjectClass = codes "GetObjectClass"
objects_name IsInstanceOf = codes "IsInstanceOf"
objects_name AllocObject = codes "AllocObject"
objects_name GetFieldID = codes "GetFieldID"
objects_name (GetField Boolean) = codes "GetBooleanField"
objects_name (GetField Byte) = codes "GetByteField"
objects_name (GetField Char) = codes "GetCharField"
objects_name (GetField Short) = codes "GetShortField"
objects_name (GetField Int) = codes "GetIntField"
objects_name (GetField Long) = codes "GetLongField"
objects_name GetObjectField = codes "GetObjectField"
objects_name (SetField Boolean) = codes "SetBooleanField"
objects_name (SetField Byte) = codes "SetByteField"
objects_name (SetField Char) = codes "SetCharField"
objects_name (SetField Short) = codes "SetShortField"
objects_name (SetField Int) = codes "SetIntField"
objects_name (SetField Long) = codes "SetLongField"
objects_name SetObjectField = codes "SetObjectField"

abbrev pub strings_name : StringsFun → List ℕ
strings_name NewString = codes "NewString"
strings_name NewStringUTF = codes "NewStringUTF"
strings_name GetStringLength = codes "GetStringLength"
strings_name GetStringUTFLength = codes "GetStringUTFLength"
strings_name GetStringRegion = codes "GetStringRegion"

abbrev pub arrays_name : ArraysFun → List ℕ
arrays_name (NewArray Boolean) = codes "NewBooleanArray"
arrays_name (NewArray Byte) = codes "NewByteArray"
arrays_name (NewArray Char) = codes "NewCharArray"
arrays_name (NewArray Short) = codes "NewShortArray"
arrays_name (NewArray Int) = codes "NewIntArray"
arrays_name (NewArray Long) = codes "NewLongArray"
arrays_name GetArrayLength = codes "GetArrayLength"
arrays_name (GetArrayRegion Boolean) = codes "GetBooleanArrayRegion"
arrays_name (GetArrayRegion Byte) = codes "GetByteArrayRegion"
arrays_name (GetArrayRegion Char) = codes "GetCharArrayRegion"
arrays_name (GetArrayRegion Short) = codes "GetShortArrayRegion"
arrays_name (GetArrayRegion Int) = codes "GetIntArrayRegion"
arrays_name (GetArrayRegion Long) = codes "GetLongArrayRegion"
arrays_name (SetArrayRegion Boolean) = codes "SetBooleanArrayRegion"
arrays_name (SetArrayRegion Byte) = codes "SetByteArrayRegion"
arrays_name (SetArrayRegion Char) = codes "SetCharArrayRegion"
arrays_name (SetArrayRegion Short) = codes "SetShortArrayRegion"
arrays_name (SetArrayRegion Int) = codes "SetIntArrayRegion"
arrays_name (SetArrayRegion Long) = codes "SetLongArrayRegion"
arrays_name NewObjectArray = codes "NewObjectArray"
arrays_name GetObjectArrayElement = codes "GetObjectArrayElement"
arrays_name SetObjectArrayElement = codes "SetObjectArrayElement"

abbrev pub monitors_name : MonitorsFun → List ℕ
monitors_name MonitorEnter = codes "MonitorEnter"
monitors_name MonitorExit = codes "MonitorExit"

abbrev pub buffers_name : BuffersFun → List ℕ
buffers_name (GetArrayElements Boolean) = codes "GetBooleanArrayElements"
buffers_name (GetArrayElements Byte) = codes "GetByteArrayElements"
buffers_name (GetArrayElements Char) = codes "GetCharArrayElements"
buffers_name (GetArrayElements Short) = codes "GetShortArrayElements"
buffers_name (GetArrayElements Int) = codes "GetIntArrayElements"
buffers_name (GetArrayElements Long) = codes "GetLongArrayElements"
buffers_name (ReleaseArrayElements Boolean) = codes "ReleaseBooleanArrayElements"
buffers_name (ReleaseArrayElements Byte) = codes "ReleaseByteArrayElements"
buffers_name (ReleaseArrayElements Char) = codes "ReleaseCharArrayElements"
buffers_name (ReleaseArrayElements Short) = codes "ReleaseShortArrayElements"
buffers_name (ReleaseArrayElements Int) = codes "ReleaseIntArrayElements"
buffers_name (ReleaseArrayElements Long) = codes "ReleaseLongArrayElements"
buffers_name GetStringChars = codes "GetStringChars"
buffers_name ReleaseStringChars = codes "ReleaseStringChars"
buffers_name GetStringUTFChars = codes "GetStringUTFChars"
buffers_name ReleaseStringUTFChars = codes "ReleaseStringUTFChars"
buffers_name GetPrimitiveArrayCritical = codes "GetPrimitiveArrayCritical"
buffers_name ReleasePrimitiveArrayCritical = codes "ReleasePrimitiveArrayCritical"
buffers_name GetStringCritical = codes "GetStringCritical"
buffers_name ReleaseStringCritical = codes "ReleaseStringCritical"
buffers_name BufferRead = codes "BufferRead"
buffers_name BufferWrite = codes "BufferWrite"

abbrev pub name_of : Fun → List ℕ
name_of (Vm fun) = vm_name fun
name_of (Refs fun) = refs_name fun
name_of (Frames fun) = frames_name fun
name_of (Exceptions fun) = exceptions_name fun
name_of (Objects fun) = objects_name fun
name_of (Strings fun) = strings_name fun
name_of (Arrays fun) = arrays_name fun
name_of (Monitors fun) = monitors_name fun
name_of (Buffers fun) = buffers_name fun

-- the first three are no functions of a JNIEnv (JNI Specification, chapter 5, "Invocation API Functions"); the virtual
-- machine itself collects
abbrev pub vm_needs_env : VmFun → Bool
vm_needs_env AttachCurrentThread = false
vm_needs_env DetachCurrentThread = false
vm_needs_env GetEnv = false
vm_needs_env NativeEnter = true
vm_needs_env NativeLeave = true
vm_needs_env LoadLibrary = true
vm_needs_env RegisterNatives = true
vm_needs_env UnregisterNatives = true
vm_needs_env Collect = false

-- the memory of a buffer is reached without a JNIEnv
abbrev pub buffers_needs_env : BuffersFun → Bool
buffers_needs_env (GetArrayElements element) = true
buffers_needs_env (ReleaseArrayElements element) = true
buffers_needs_env GetStringChars = true
buffers_needs_env ReleaseStringChars = true
buffers_needs_env GetStringUTFChars = true
buffers_needs_env ReleaseStringUTFChars = true
buffers_needs_env GetPrimitiveArrayCritical = true
buffers_needs_env ReleasePrimitiveArrayCritical = true
buffers_needs_env GetStringCritical = true
buffers_needs_env ReleaseStringCritical = true
buffers_needs_env BufferRead = false
buffers_needs_env BufferWrite = false

-- the function takes an environment
abbrev pub needs_env : Fun → Bool
needs_env (Vm fun) = vm_needs_env fun
needs_env (Refs fun) = true
needs_env (Frames fun) = true
needs_env (Exceptions fun) = true
needs_env (Objects fun) = true
needs_env (Strings fun) = true
needs_env (Arrays fun) = true
needs_env (Monitors fun) = true
needs_env (Buffers fun) = buffers_needs_env fun

abbrev pub all : List Fun
all =
    Vm AttachCurrentThread ∷ Vm DetachCurrentThread ∷ Vm GetEnv ∷ Vm NativeEnter ∷ Vm NativeLeave
    ∷ Vm LoadLibrary ∷ Vm RegisterNatives ∷ Vm UnregisterNatives ∷ Vm Collect
    ∷ Refs NewLocalRef ∷ Refs NewGlobalRef ∷ Refs NewWeakGlobalRef ∷ Refs DeleteLocalRef ∷ Refs DeleteGlobalRef
    ∷ Refs DeleteWeakGlobalRef ∷ Refs IsSameObject ∷ Refs GetObjectRefType
    ∷ Frames PushLocalFrame ∷ Frames PopLocalFrame ∷ Frames EnsureLocalCapacity
    ∷ Exceptions Throw ∷ Exceptions ExceptionOccurred ∷ Exceptions ExceptionDescribe
    ∷ Exceptions ExceptionClear ∷ Exceptions ExceptionCheck
    ∷ Objects FindClass ∷ Objects GetObjectClass ∷ Objects IsInstanceOf ∷ Objects AllocObject
    ∷ Objects GetFieldID ∷ Objects (GetField Boolean) ∷ Objects (GetField Byte) ∷ Objects (GetField Char)
    ∷ Objects (GetField Short) ∷ Objects (GetField Int) ∷ Objects (GetField Long) ∷ Objects GetObjectField
    ∷ Objects (SetField Boolean) ∷ Objects (SetField Byte) ∷ Objects (SetField Char) ∷ Objects (SetField Short)
    ∷ Objects (SetField Int) ∷ Objects (SetField Long) ∷ Objects SetObjectField
    ∷ Strings NewString ∷ Strings NewStringUTF ∷ Strings GetStringLength ∷ Strings GetStringUTFLength
    ∷ Strings GetStringRegion
    ∷ Arrays (NewArray Boolean) ∷ Arrays (NewArray Byte) ∷ Arrays (NewArray Char) ∷ Arrays (NewArray Short)
    ∷ Arrays (NewArray Int) ∷ Arrays (NewArray Long) ∷ Arrays GetArrayLength ∷ Arrays (GetArrayRegion Boolean)
    ∷ Arrays (GetArrayRegion Byte) ∷ Arrays (GetArrayRegion Char) ∷ Arrays (GetArrayRegion Short)
    ∷ Arrays (GetArrayRegion Int) ∷ Arrays (GetArrayRegion Long) ∷ Arrays (SetArrayRegion Boolean)
    ∷ Arrays (SetArrayRegion Byte) ∷ Arrays (SetArrayRegion Char) ∷ Arrays (SetArrayRegion Short)
    ∷ Arrays (SetArrayRegion Int) ∷ Arrays (SetArrayRegion Long) ∷ Arrays NewObjectArray
    ∷ Arrays GetObjectArrayElement ∷ Arrays SetObjectArrayElement
    ∷ Monitors MonitorEnter ∷ Monitors MonitorExit
    ∷ Buffers (GetArrayElements Boolean) ∷ Buffers (GetArrayElements Byte) ∷ Buffers (GetArrayElements Char)
    ∷ Buffers (GetArrayElements Short) ∷ Buffers (GetArrayElements Int) ∷ Buffers (GetArrayElements Long)
    ∷ Buffers (ReleaseArrayElements Boolean) ∷ Buffers (ReleaseArrayElements Byte)
    ∷ Buffers (ReleaseArrayElements Char) ∷ Buffers (ReleaseArrayElements Short) ∷ Buffers (ReleaseArrayElements Int)
    ∷ Buffers (ReleaseArrayElements Long) ∷ Buffers GetStringChars ∷ Buffers ReleaseStringChars
    ∷ Buffers GetStringUTFChars ∷ Buffers ReleaseStringUTFChars ∷ Buffers GetPrimitiveArrayCritical
    ∷ Buffers ReleasePrimitiveArrayCritical ∷ Buffers GetStringCritical ∷ Buffers ReleaseStringCritical
    ∷ Buffers BufferRead ∷ Buffers BufferWrite
    ∷ []

-- the function of that name
abbrev pub named : List ℕ → Option Fun
named name = find (λ fun. pointwise nat_eq (name_of fun) name) all
