-- Calls of one function with the same operands are the same, and a call's operands are of its
-- function's kinds.
use Rattle.std.proofs.Common.{◌≡◌, ℕ, List, [], ◌∷◌, map, refl, ap, ◌≤◌, ◌+◌, arith}
use Rattle.jg_words.specs.declared.fun.Fun.{Fun}
use Rattle.jg_words.specs.declared.fun.Fun.TheVariants as fun
use Rattle.jg_words.specs.declared.fun.vm.VmFun.{VmFun}
use Rattle.jg_words.specs.declared.fun.vm.VmFun.TheVariants as vm
use Rattle.jg_words.specs.declared.fun.refs.RefsFun.{RefsFun}
use Rattle.jg_words.specs.declared.fun.refs.RefsFun.TheVariants as refs
use Rattle.jg_words.specs.declared.fun.frames.FramesFun.{FramesFun}
use Rattle.jg_words.specs.declared.fun.frames.FramesFun.TheVariants as frames
use Rattle.jg_words.specs.declared.fun.exceptions.ExceptionsFun.{ExceptionsFun}
use Rattle.jg_words.specs.declared.fun.exceptions.ExceptionsFun.TheVariants as exceptions
use Rattle.jg_words.specs.declared.fun.objects.ObjectsFun.{ObjectsFun}
use Rattle.jg_words.specs.declared.fun.objects.ObjectsFun.TheVariants as objects
use Rattle.jg_words.specs.declared.fun.strings.StringsFun.{StringsFun}
use Rattle.jg_words.specs.declared.fun.strings.StringsFun.TheVariants as strings
use Rattle.jg_words.specs.declared.fun.arrays.ArraysFun.{ArraysFun}
use Rattle.jg_words.specs.declared.fun.arrays.ArraysFun.TheVariants as arrays
use Rattle.jg_words.specs.declared.fun.monitors.MonitorsFun.{MonitorsFun}
use Rattle.jg_words.specs.declared.fun.monitors.MonitorsFun.TheVariants as monitors
use Rattle.jg_words.specs.declared.fun.buffers.BuffersFun.{BuffersFun}
use Rattle.jg_words.specs.declared.fun.buffers.BuffersFun.TheVariants as buffers
use Rattle.jg_words.specs.declared.call.Call.{Call}
use Rattle.jg_words.specs.declared.call.Call.TheVariants.{Vm, Refs, Frames, Exceptions, Objects, Strings, Arrays, Monitors, Buffers}
use Rattle.jg_words.specs.declared.call.vm.VmCall.{VmCall}
use Rattle.jg_words.specs.declared.call.vm.VmCall.TheVariants.{AttachCurrentThread, DetachCurrentThread, GetEnv, NativeEnter, NativeLeave, LoadLibrary, RegisterNatives, UnregisterNatives, Collect}
use Rattle.jg_words.specs.declared.call.refs.RefsCall.{RefsCall}
use Rattle.jg_words.specs.declared.call.refs.RefsCall.TheVariants.{NewLocalRef, NewGlobalRef, NewWeakGlobalRef, DeleteLocalRef, DeleteGlobalRef, DeleteWeakGlobalRef, IsSameObject, GetObjectRefType}
use Rattle.jg_words.specs.declared.call.frames.FramesCall.{FramesCall}
use Rattle.jg_words.specs.declared.call.frames.FramesCall.TheVariants.{PushLocalFrame, PopLocalFrame, EnsureLocalCapacity}
use Rattle.jg_words.specs.declared.call.exceptions.ExceptionsCall.{ExceptionsCall}
use Rattle.jg_words.specs.declared.call.exceptions.ExceptionsCall.TheVariants.{Throw, ExceptionOccurred, ExceptionDescribe, ExceptionClear, ExceptionCheck}
use Rattle.jg_words.specs.declared.call.objects.ObjectsCall.{ObjectsCall}
use Rattle.jg_words.specs.declared.call.objects.ObjectsCall.TheVariants.{FindClass, GetObjectClass, IsInstanceOf, AllocObject, GetFieldID, GetField, GetObjectField, SetField, SetObjectField}
use Rattle.jg_words.specs.declared.call.strings.StringsCall.{StringsCall}
use Rattle.jg_words.specs.declared.call.strings.StringsCall.TheVariants.{NewString, NewStringUTF, GetStringLength, GetStringUTFLength, GetStringRegion}
use Rattle.jg_words.specs.declared.call.arrays.ArraysCall.{ArraysCall}
use Rattle.jg_words.specs.declared.call.arrays.ArraysCall.TheVariants.{NewArray, GetArrayLength, GetArrayRegion, SetArrayRegion, NewObjectArray, GetObjectArrayElement, SetObjectArrayElement}
use Rattle.jg_words.specs.declared.call.monitors.MonitorsCall.{MonitorsCall}
use Rattle.jg_words.specs.declared.call.monitors.MonitorsCall.TheVariants.{MonitorEnter, MonitorExit}
use Rattle.jg_words.specs.declared.call.buffers.BuffersCall.{BuffersCall}
use Rattle.jg_words.specs.declared.call.buffers.BuffersCall.TheVariants.{GetArrayElements, ReleaseArrayElements, GetStringChars, ReleaseStringChars, GetStringUTFChars, ReleaseStringUTFChars, GetPrimitiveArrayCritical, ReleasePrimitiveArrayCritical, GetStringCritical, ReleaseStringCritical, BufferRead, BufferWrite}
use Rattle.jg_words.specs.Call.{fun_of, vm_fun, refs_fun, frames_fun, exceptions_fun, objects_fun, strings_fun, arrays_fun, monitors_fun, buffers_fun}
use Rattle.jg_text.specs.Kinds.{OperandKind, Numbers, Name}
use Rattle.jg_text.specs.Words.{kind_of}
use Rattle.jg_text.specs.Operands.{operands, operand_kinds, vm_operands, vm_kinds, refs_operands, refs_kinds, frames_operands, frames_kinds, exceptions_operands, exceptions_kinds, objects_operands, objects_kinds, strings_operands, strings_kinds, arrays_operands, arrays_kinds, monitors_operands, monitors_kinds, buffers_operands, buffers_kinds}

-- how long an operand of the kind is at most
abbrev pub longest : OperandKind → ℕ
longest Numbers = 21002
longest Name = 255
longest call = 42

-- how long operands of these kinds are at most, with a space before each
abbrev pub room : List OperandKind → ℕ
room [] = 0
room (k ∷ ks) = longest k + 1 + room ks

vm_same : (c d : VmCall) → vm_fun c ≡ vm_fun d → vm_operands c ≡ vm_operands d → c ≡ d
vm_same AttachCurrentThread AttachCurrentThread e1 e2 = refl
vm_same DetachCurrentThread DetachCurrentThread e1 e2 = refl
vm_same GetEnv GetEnv e1 e2 = refl
vm_same (NativeEnter a0 a1 a2) (NativeEnter b0 b1 b2) e1 e2 = cc
vm_same (NativeLeave a0) (NativeLeave b0) e1 e2 = cc
vm_same (LoadLibrary a0 a1) (LoadLibrary b0 b1) e1 e2 = cc
vm_same (RegisterNatives a0 a1 a2) (RegisterNatives b0 b1 b2) e1 e2 = cc
vm_same (UnregisterNatives a0) (UnregisterNatives b0) e1 e2 = cc
vm_same Collect Collect e1 e2 = refl
vm_same _ _ e1 e2 = absurd (cc)

vm_few : (f : VmFun) → room (vm_kinds f) ≤ 21600
vm_few vm.AttachCurrentThread = omega arith
vm_few fun = omega arith

vm_same_kinds : (c : VmCall) → map kind_of (vm_operands c) ≡ vm_kinds (vm_fun c)
vm_same_kinds AttachCurrentThread = refl
vm_same_kinds call = refl

refs_same : (c d : RefsCall) → refs_fun c ≡ refs_fun d → refs_operands c ≡ refs_operands d → c ≡ d
refs_same (NewLocalRef a0) (NewLocalRef b0) e1 e2 = cc
refs_same (NewGlobalRef a0) (NewGlobalRef b0) e1 e2 = cc
refs_same (NewWeakGlobalRef a0) (NewWeakGlobalRef b0) e1 e2 = cc
refs_same (DeleteLocalRef a0) (DeleteLocalRef b0) e1 e2 = cc
refs_same (DeleteGlobalRef a0) (DeleteGlobalRef b0) e1 e2 = cc
refs_same (DeleteWeakGlobalRef a0) (DeleteWeakGlobalRef b0) e1 e2 = cc
refs_same (IsSameObject a0 a1) (IsSameObject b0 b1) e1 e2 = cc
refs_same (GetObjectRefType a0) (GetObjectRefType b0) e1 e2 = cc
refs_same _ _ e1 e2 = absurd (cc)

refs_few : (f : RefsFun) → room (refs_kinds f) ≤ 21600
refs_few refs.NewLocalRef = omega arith
refs_few fun = omega arith

refs_same_kinds : (c : RefsCall) → map kind_of (refs_operands c) ≡ refs_kinds (refs_fun c)
refs_same_kinds (NewLocalRef r) = refl
refs_same_kinds call = refl

frames_same : (c d : FramesCall) → frames_fun c ≡ frames_fun d → frames_operands c ≡ frames_operands d → c ≡ d
frames_same (PushLocalFrame a0) (PushLocalFrame b0) e1 e2 = cc
frames_same (PopLocalFrame a0) (PopLocalFrame b0) e1 e2 = cc
frames_same (EnsureLocalCapacity a0) (EnsureLocalCapacity b0) e1 e2 = cc
frames_same _ _ e1 e2 = absurd (cc)

frames_few : (f : FramesFun) → room (frames_kinds f) ≤ 21600
frames_few frames.PushLocalFrame = omega arith
frames_few frames.PopLocalFrame = omega arith
frames_few frames.EnsureLocalCapacity = omega arith

frames_same_kinds : (c : FramesCall) → map kind_of (frames_operands c) ≡ frames_kinds (frames_fun c)
frames_same_kinds (PushLocalFrame capacity) = refl
frames_same_kinds (PopLocalFrame kept) = refl
frames_same_kinds (EnsureLocalCapacity capacity) = refl

exceptions_same : (c d : ExceptionsCall) → exceptions_fun c ≡ exceptions_fun d → exceptions_operands c ≡ exceptions_operands d → c ≡ d
exceptions_same (Throw a0) (Throw b0) e1 e2 = cc
exceptions_same ExceptionOccurred ExceptionOccurred e1 e2 = refl
exceptions_same ExceptionDescribe ExceptionDescribe e1 e2 = refl
exceptions_same ExceptionClear ExceptionClear e1 e2 = refl
exceptions_same ExceptionCheck ExceptionCheck e1 e2 = refl
exceptions_same _ _ e1 e2 = absurd (cc)

exceptions_few : (f : ExceptionsFun) → room (exceptions_kinds f) ≤ 21600
exceptions_few exceptions.Throw = omega arith
exceptions_few fun = omega arith

exceptions_same_kinds : (c : ExceptionsCall) → map kind_of (exceptions_operands c) ≡ exceptions_kinds (exceptions_fun c)
exceptions_same_kinds (Throw exception) = refl
exceptions_same_kinds call = refl

objects_same : (c d : ObjectsCall) → objects_fun c ≡ objects_fun d → objects_operands c ≡ objects_operands d → c ≡ d
objects_same (FindClass a0) (FindClass b0) e1 e2 = cc
objects_same (GetObjectClass a0) (GetObjectClass b0) e1 e2 = cc
objects_same (IsInstanceOf a0 a1) (IsInstanceOf b0 b1) e1 e2 = cc
objects_same (AllocObject a0) (AllocObject b0) e1 e2 = cc
objects_same (GetFieldID a0 a1 a2) (GetFieldID b0 b1 b2) e1 e2 = cc
objects_same (GetField a0 a1 a2) (GetField b0 b1 b2) e1 e2 = cc
objects_same (GetObjectField a0 a1) (GetObjectField b0 b1) e1 e2 = cc
objects_same (SetField a0 a1 a2 a3) (SetField b0 b1 b2 b3) e1 e2 = cc
objects_same (SetObjectField a0 a1 a2) (SetObjectField b0 b1 b2) e1 e2 = cc
objects_same _ _ e1 e2 = absurd (cc)

objects_few : (f : ObjectsFun) → room (objects_kinds f) ≤ 21600
objects_few objects.FindClass = omega arith
objects_few fun = omega arith

objects_same_kinds : (c : ObjectsCall) → map kind_of (objects_operands c) ≡ objects_kinds (objects_fun c)
objects_same_kinds (FindClass name) = refl
objects_same_kinds call = refl

strings_same : (c d : StringsCall) → strings_fun c ≡ strings_fun d → strings_operands c ≡ strings_operands d → c ≡ d
strings_same (NewString a0) (NewString b0) e1 e2 = cc
strings_same (NewStringUTF a0) (NewStringUTF b0) e1 e2 = cc
strings_same (GetStringLength a0) (GetStringLength b0) e1 e2 = cc
strings_same (GetStringUTFLength a0) (GetStringUTFLength b0) e1 e2 = cc
strings_same (GetStringRegion a0 a1 a2) (GetStringRegion b0 b1 b2) e1 e2 = cc
strings_same _ _ e1 e2 = absurd (cc)

strings_few : (f : StringsFun) → room (strings_kinds f) ≤ 21600
strings_few strings.NewString = omega arith
strings_few fun = omega arith

strings_same_kinds : (c : StringsCall) → map kind_of (strings_operands c) ≡ strings_kinds (strings_fun c)
strings_same_kinds (NewString units) = refl
strings_same_kinds call = refl

arrays_same : (c d : ArraysCall) → arrays_fun c ≡ arrays_fun d → arrays_operands c ≡ arrays_operands d → c ≡ d
arrays_same (NewArray a0 a1) (NewArray b0 b1) e1 e2 = cc
arrays_same (GetArrayLength a0) (GetArrayLength b0) e1 e2 = cc
arrays_same (GetArrayRegion a0 a1 a2 a3) (GetArrayRegion b0 b1 b2 b3) e1 e2 = cc
arrays_same (SetArrayRegion a0 a1 a2 a3) (SetArrayRegion b0 b1 b2 b3) e1 e2 = cc
arrays_same (NewObjectArray a0 a1 a2) (NewObjectArray b0 b1 b2) e1 e2 = cc
arrays_same (GetObjectArrayElement a0 a1) (GetObjectArrayElement b0 b1) e1 e2 = cc
arrays_same (SetObjectArrayElement a0 a1 a2) (SetObjectArrayElement b0 b1 b2) e1 e2 = cc
arrays_same _ _ e1 e2 = absurd (cc)

arrays_few : (f : ArraysFun) → room (arrays_kinds f) ≤ 21600
arrays_few (arrays.NewArray element) = omega arith
arrays_few fun = omega arith

arrays_same_kinds : (c : ArraysCall) → map kind_of (arrays_operands c) ≡ arrays_kinds (arrays_fun c)
arrays_same_kinds (NewArray element length) = refl
arrays_same_kinds call = refl

monitors_same : (c d : MonitorsCall) → monitors_fun c ≡ monitors_fun d → monitors_operands c ≡ monitors_operands d → c ≡ d
monitors_same (MonitorEnter a0) (MonitorEnter b0) e1 e2 = cc
monitors_same (MonitorExit a0) (MonitorExit b0) e1 e2 = cc
monitors_same _ _ e1 e2 = absurd (cc)

monitors_few : (f : MonitorsFun) → room (monitors_kinds f) ≤ 21600
monitors_few monitors.MonitorEnter = omega arith
monitors_few monitors.MonitorExit = omega arith

monitors_same_kinds : (c : MonitorsCall) → map kind_of (monitors_operands c) ≡ monitors_kinds (monitors_fun c)
monitors_same_kinds (MonitorEnter r) = refl
monitors_same_kinds (MonitorExit r) = refl

buffers_same : (c d : BuffersCall) → buffers_fun c ≡ buffers_fun d → buffers_operands c ≡ buffers_operands d → c ≡ d
buffers_same (GetArrayElements a0 a1) (GetArrayElements b0 b1) e1 e2 = cc
buffers_same (ReleaseArrayElements a0 a1 a2 a3) (ReleaseArrayElements b0 b1 b2 b3) e1 e2 = cc
buffers_same (GetStringChars a0) (GetStringChars b0) e1 e2 = cc
buffers_same (ReleaseStringChars a0 a1) (ReleaseStringChars b0 b1) e1 e2 = cc
buffers_same (GetStringUTFChars a0) (GetStringUTFChars b0) e1 e2 = cc
buffers_same (ReleaseStringUTFChars a0 a1) (ReleaseStringUTFChars b0 b1) e1 e2 = cc
buffers_same (GetPrimitiveArrayCritical a0) (GetPrimitiveArrayCritical b0) e1 e2 = cc
buffers_same (ReleasePrimitiveArrayCritical a0 a1 a2) (ReleasePrimitiveArrayCritical b0 b1 b2) e1 e2 = cc
buffers_same (GetStringCritical a0) (GetStringCritical b0) e1 e2 = cc
buffers_same (ReleaseStringCritical a0 a1) (ReleaseStringCritical b0 b1) e1 e2 = cc
buffers_same (BufferRead a0 a1) (BufferRead b0 b1) e1 e2 = cc
buffers_same (BufferWrite a0 a1 a2) (BufferWrite b0 b1 b2) e1 e2 = cc
buffers_same _ _ e1 e2 = absurd (cc)

buffers_few : (f : BuffersFun) → room (buffers_kinds f) ≤ 21600
buffers_few (buffers.GetArrayElements element) = omega arith
buffers_few fun = omega arith

buffers_same_kinds : (c : BuffersCall) → map kind_of (buffers_operands c) ≡ buffers_kinds (buffers_fun c)
buffers_same_kinds (GetArrayElements element array) = refl
buffers_same_kinds call = refl

pub same_call : (c d : Call) → fun_of c ≡ fun_of d → operands c ≡ operands d → c ≡ d
same_call (Vm c) (Vm d) e1 e2 = ap Vm (vm_same c d (cc) e2)
same_call (Refs c) (Refs d) e1 e2 = ap Refs (refs_same c d (cc) e2)
same_call (Frames c) (Frames d) e1 e2 = ap Frames (frames_same c d (cc) e2)
same_call (Exceptions c) (Exceptions d) e1 e2 = ap Exceptions (exceptions_same c d (cc) e2)
same_call (Objects c) (Objects d) e1 e2 = ap Objects (objects_same c d (cc) e2)
same_call (Strings c) (Strings d) e1 e2 = ap Strings (strings_same c d (cc) e2)
same_call (Arrays c) (Arrays d) e1 e2 = ap Arrays (arrays_same c d (cc) e2)
same_call (Monitors c) (Monitors d) e1 e2 = ap Monitors (monitors_same c d (cc) e2)
same_call (Buffers c) (Buffers d) e1 e2 = ap Buffers (buffers_same c d (cc) e2)
same_call _ _ e1 e2 = absurd (cc)

pub same_kinds : (c : Call) → map kind_of (operands c) ≡ operand_kinds (fun_of c)
same_kinds (Vm c) = vm_same_kinds c
same_kinds (Refs c) = refs_same_kinds c
same_kinds (Frames c) = frames_same_kinds c
same_kinds (Exceptions c) = exceptions_same_kinds c
same_kinds (Objects c) = objects_same_kinds c
same_kinds (Strings c) = strings_same_kinds c
same_kinds (Arrays c) = arrays_same_kinds c
same_kinds (Monitors c) = monitors_same_kinds c
same_kinds (Buffers c) = buffers_same_kinds c

pub few_operands : (f : Fun) → room (operand_kinds f) ≤ 21600
few_operands (fun.Vm f) = vm_few f
few_operands (fun.Refs f) = refs_few f
few_operands (fun.Frames f) = frames_few f
few_operands (fun.Exceptions f) = exceptions_few f
few_operands (fun.Objects f) = objects_few f
few_operands (fun.Strings f) = strings_few f
few_operands (fun.Arrays f) = arrays_few f
few_operands (fun.Monitors f) = monitors_few f
few_operands (fun.Buffers f) = buffers_few f
