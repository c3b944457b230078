-- The function of a call.
use Rattle.jg_words.specs.declared.fun.Fun.{Fun}
use Rattle.jg_words.specs.declared.fun.Fun.TheVariants as fun
use Rattle.jg_words.specs.declared.fun.vm.VmFun.{VmFun}
use Rattle.jg_words.specs.declared.fun.vm.VmFun.TheVariants as vm
use Rattle.jg_words.specs.declared.fun.refs.RefsFun.{RefsFun}
use Rattle.jg_words.specs.declared.fun.refs.RefsFun.TheVariants as refs
use Rattle.jg_words.specs.declared.fun.frames.FramesFun.{FramesFun}
use Rattle.jg_words.specs.declared.fun.frames.FramesFun.TheVariants as frames
use Rattle.jg_words.specs.declared.fun.exceptions.ExceptionsFun.{ExceptionsFun}
use Rattle.jg_words.specs.declared.fun.exceptions.ExceptionsFun.TheVariants as exceptions
use Rattle.jg_words.specs.declared.fun.objects.ObjectsFun.{ObjectsFun}
use Rattle.jg_words.specs.declared.fun.objects.ObjectsFun.TheVariants as objects
use Rattle.jg_words.specs.declared.fun.strings.StringsFun.{StringsFun}
use Rattle.jg_words.specs.declared.fun.strings.StringsFun.TheVariants as strings
use Rattle.jg_words.specs.declared.fun.arrays.ArraysFun.{ArraysFun}
use Rattle.jg_words.specs.declared.fun.arrays.ArraysFun.TheVariants as arrays
use Rattle.jg_words.specs.declared.fun.monitors.MonitorsFun.{MonitorsFun}
use Rattle.jg_words.specs.declared.fun.monitors.MonitorsFun.TheVariants as monitors
use Rattle.jg_words.specs.declared.fun.buffers.BuffersFun.{BuffersFun}
use Rattle.jg_words.specs.declared.fun.buffers.BuffersFun.TheVariants as buffers
use Rattle.jg_words.specs.declared.call.Call.{Call}
use Rattle.jg_words.specs.declared.call.Call.TheVariants.{Vm, Refs, Frames, Exceptions, Objects, Strings, Arrays, Monitors, Buffers}
use Rattle.jg_words.specs.declared.call.vm.VmCall.{VmCall}
use Rattle.jg_words.specs.declared.call.vm.VmCall.TheVariants.{AttachCurrentThread, DetachCurrentThread, GetEnv, NativeEnter, NativeLeave, LoadLibrary, RegisterNatives, UnregisterNatives, Collect}
use Rattle.jg_words.specs.declared.call.refs.RefsCall.{RefsCall}
use Rattle.jg_words.specs.declared.call.refs.RefsCall.TheVariants.{NewLocalRef, NewGlobalRef, NewWeakGlobalRef, DeleteLocalRef, DeleteGlobalRef, DeleteWeakGlobalRef, IsSameObject, GetObjectRefType}
use Rattle.jg_words.specs.declared.call.frames.FramesCall.{FramesCall}
use Rattle.jg_words.specs.declared.call.frames.FramesCall.TheVariants.{PushLocalFrame, PopLocalFrame, EnsureLocalCapacity}
use Rattle.jg_words.specs.declared.call.exceptions.ExceptionsCall.{ExceptionsCall}
use Rattle.jg_words.specs.declared.call.exceptions.ExceptionsCall.TheVariants.{Throw, ExceptionOccurred, ExceptionDescribe, ExceptionClear, ExceptionCheck}
use Rattle.jg_words.specs.declared.call.objects.ObjectsCall.{ObjectsCall}
use Rattle.jg_words.specs.declared.call.objects.ObjectsCall.TheVariants.{FindClass, GetObjectClass, IsInstanceOf, AllocObject, GetFieldID, GetField, GetObjectField, SetField, SetObjectField}
use Rattle.jg_words.specs.declared.call.strings.StringsCall.{StringsCall}
use Rattle.jg_words.specs.declared.call.strings.StringsCall.TheVariants.{NewString, NewStringUTF, GetStringLength, GetStringUTFLength, GetStringRegion}
use Rattle.jg_words.specs.declared.call.arrays.ArraysCall.{ArraysCall}
use Rattle.jg_words.specs.declared.call.arrays.ArraysCall.TheVariants.{NewArray, GetArrayLength, GetArrayRegion, SetArrayRegion, NewObjectArray, GetObjectArrayElement, SetObjectArrayElement}
use Rattle.jg_words.specs.declared.call.monitors.MonitorsCall.{MonitorsCall}
use Rattle.jg_words.specs.declared.call.monitors.MonitorsCall.TheVariants.{MonitorEnter, MonitorExit}
use Rattle.jg_words.specs.declared.call.buffers.BuffersCall.{BuffersCall}
use Rattle.jg_words.specs.declared.call.buffers.BuffersCall.TheVariants.{GetArrayElements, ReleaseArrayElements, GetStringChars, ReleaseStringChars, GetStringUTFChars, ReleaseStringUTFChars, GetPrimitiveArrayCritical, ReleasePrimitiveArrayCritical, GetStringCritical, ReleaseStringCritical, BufferRead, BufferWrite}

abbrev pub vm_fun : VmCall → VmFun
vm_fun AttachCurrentThread = vm.AttachCurrentThread
vm_fun DetachCurrentThread = vm.DetachCurrentThread
vm_fun GetEnv = vm.GetEnv
vm_fun (NativeEnter class method signature) = vm.NativeEnter
vm_fun (NativeLeave kept) = vm.NativeLeave
vm_fun (LoadLibrary class library) = vm.LoadLibrary
vm_fun (RegisterNatives class method signature) = vm.RegisterNatives
vm_fun (UnregisterNatives class) = vm.UnregisterNatives
vm_fun Collect = vm.Collect

abbrev pub refs_fun : RefsCall → RefsFun
refs_fun (NewLocalRef of) = refs.NewLocalRef
refs_fun (NewGlobalRef of) = refs.NewGlobalRef
refs_fun (NewWeakGlobalRef of) = refs.NewWeakGlobalRef
refs_fun (DeleteLocalRef of) = refs.DeleteLocalRef
refs_fun (DeleteGlobalRef of) = refs.DeleteGlobalRef
refs_fun (DeleteWeakGlobalRef of) = refs.DeleteWeakGlobalRef
refs_fun (IsSameObject first second) = refs.IsSameObject
refs_fun (GetObjectRefType of) = refs.GetObjectRefType

abbrev pub frames_fun : FramesCall → FramesFun
frames_fun (PushLocalFrame capacity) = frames.PushLocalFrame
frames_fun (PopLocalFrame kept) = frames.PopLocalFrame
frames_fun (EnsureLocalCapacity capacity) = frames.EnsureLocalCapacity

abbrev pub exceptions_fun : ExceptionsCall → ExceptionsFun
exceptions_fun (Throw exception) = exceptions.Throw
exceptions_fun ExceptionOccurred = exceptions.ExceptionOccurred
exceptions_fun ExceptionDescribe = exceptions.ExceptionDescribe
exceptions_fun ExceptionClear = exceptions.ExceptionClear
exceptions_fun ExceptionCheck = exceptions.ExceptionCheck

abbrev pub objects_fun : ObjectsCall → ObjectsFun
objects_fun (FindClass name) = objects.FindClass
objects_fun (GetObjectClass object) = objects.GetObjectClass
objects_fun (IsInstanceOf object class) = objects.IsInstanceOf
objects_fun (AllocObject class) = objects.AllocObject
objects_fun (GetFieldID class field signature) = objects.GetFieldID
objects_fun (GetField primitive object field) = objects.GetField primitive
objects_fun (GetObjectField object field) = objects.GetObjectField
objects_fun (SetField primitive object field value) = objects.SetField primitive
objects_fun (SetObjectField object field value) = objects.SetObjectField

abbrev pub strings_fun : StringsCall → StringsFun
strings_fun (NewString units) = strings.NewString
strings_fun (NewStringUTF bytes) = strings.NewStringUTF
strings_fun (GetStringLength string) = strings.GetStringLength
strings_fun (GetStringUTFLength string) = strings.GetStringUTFLength
strings_fun (GetStringRegion string start length) = strings.GetStringRegion

abbrev pub arrays_fun : ArraysCall → ArraysFun
arrays_fun (NewArray element length) = arrays.NewArray element
arrays_fun (GetArrayLength array) = arrays.GetArrayLength
arrays_fun (GetArrayRegion element array start length) = arrays.GetArrayRegion element
arrays_fun (SetArrayRegion element array start values) = arrays.SetArrayRegion element
arrays_fun (NewObjectArray length class fill) = arrays.NewObjectArray
arrays_fun (GetObjectArrayElement array index) = arrays.GetObjectArrayElement
arrays_fun (SetObjectArrayElement array index value) = arrays.SetObjectArrayElement

abbrev pub monitors_fun : MonitorsCall → MonitorsFun
monitors_fun (MonitorEnter of) = monitors.MonitorEnter
monitors_fun (MonitorExit of) = monitors.MonitorExit

abbrev pub buffers_fun : BuffersCall → BuffersFun
buffers_fun (GetArrayElements element array) = buffers.GetArrayElements element
buffers_fun (ReleaseArrayElements element array buffer mode) = buffers.ReleaseArrayElements element
buffers_fun (GetStringChars string) = buffers.GetStringChars
buffers_fun (ReleaseStringChars string buffer) = buffers.ReleaseStringChars
buffers_fun (GetStringUTFChars string) = buffers.GetStringUTFChars
buffers_fun (ReleaseStringUTFChars string buffer) = buffers.ReleaseStringUTFChars
buffers_fun (GetPrimitiveArrayCritical array) = buffers.GetPrimitiveArrayCritical
buffers_fun (ReleasePrimitiveArrayCritical array buffer mode) = buffers.ReleasePrimitiveArrayCritical
buffers_fun (GetStringCritical string) = buffers.GetStringCritical
buffers_fun (ReleaseStringCritical string buffer) = buffers.ReleaseStringCritical
buffers_fun (BufferRead buffer index) = buffers.BufferRead
buffers_fun (BufferWrite buffer index value) = buffers.BufferWrite

abbrev pub fun_of : Call → Fun
fun_of (Vm call) = fun.Vm (vm_fun call)
fun_of (Refs call) = fun.Refs (refs_fun call)
fun_of (Frames call) = fun.Frames (frames_fun call)
fun_of (Exceptions call) = fun.Exceptions (exceptions_fun call)
fun_of (Objects call) = fun.Objects (objects_fun call)
fun_of (Strings call) = fun.Strings (strings_fun call)
fun_of (Arrays call) = fun.Arrays (arrays_fun call)
fun_of (Monitors call) = fun.Monitors (monitors_fun call)
fun_of (Buffers call) = fun.Buffers (buffers_fun call)
