-- Which functions may be called inside a critical region, and which with an exception pending.
use Rattle.std.specs.Prelude.{Bool, true, false}
use Rattle.jg_words.specs.declared.fun.Fun.{Fun}
use Rattle.jg_words.specs.declared.fun.Fun.TheVariants.{Vm, Refs, Frames, Exceptions, Objects, Strings, Arrays, Monitors, Buffers}
use Rattle.jg_words.specs.declared.fun.vm.VmFun.{VmFun}
use Rattle.jg_words.specs.declared.fun.vm.VmFun.TheVariants.{AttachCurrentThread, DetachCurrentThread, GetEnv, NativeEnter, NativeLeave, LoadLibrary, RegisterNatives, UnregisterNatives, Collect}
use Rattle.jg_words.specs.declared.fun.frames.FramesFun.{FramesFun}
use Rattle.jg_words.specs.declared.fun.frames.FramesFun.TheVariants.{PushLocalFrame, PopLocalFrame, EnsureLocalCapacity}
use Rattle.jg_words.specs.declared.fun.exceptions.ExceptionsFun.{ExceptionsFun}
use Rattle.jg_words.specs.declared.fun.exceptions.ExceptionsFun.TheVariants.{Throw, ExceptionOccurred, ExceptionDescribe, ExceptionClear, ExceptionCheck}
use Rattle.jg_words.specs.declared.fun.refs.RefsFun.{RefsFun}
use Rattle.jg_words.specs.declared.fun.refs.RefsFun.TheVariants.{NewLocalRef, NewGlobalRef, NewWeakGlobalRef, DeleteLocalRef, DeleteGlobalRef, DeleteWeakGlobalRef, IsSameObject, GetObjectRefType}
use Rattle.jg_words.specs.declared.fun.monitors.MonitorsFun.{MonitorsFun}
use Rattle.jg_words.specs.declared.fun.monitors.MonitorsFun.TheVariants.{MonitorEnter, MonitorExit}
use Rattle.jg_words.specs.declared.fun.buffers.BuffersFun.{BuffersFun}
use Rattle.jg_words.specs.declared.fun.buffers.BuffersFun.TheVariants.{GetArrayElements, ReleaseArrayElements, GetStringChars, ReleaseStringChars, GetStringUTFChars, ReleaseStringUTFChars, GetPrimitiveArrayCritical, ReleasePrimitiveArrayCritical, GetStringCritical, ReleaseStringCritical, BufferRead, BufferWrite}

abbrev pub buffers_passes_critical : BuffersFun → Bool
buffers_passes_critical (GetArrayElements element) = false
buffers_passes_critical (ReleaseArrayElements element) = false
buffers_passes_critical GetStringChars = false
buffers_passes_critical ReleaseStringChars = false
buffers_passes_critical GetStringUTFChars = false
buffers_passes_critical ReleaseStringUTFChars = false
buffers_passes_critical GetPrimitiveArrayCritical = true
buffers_passes_critical ReleasePrimitiveArrayCritical = true
buffers_passes_critical GetStringCritical = true
buffers_passes_critical ReleaseStringCritical = true
buffers_passes_critical BufferRead = true
buffers_passes_critical BufferWrite = true

-- inside a critical region the four critical functions, which may be nested, and what reads and writes a buffer (JNI
-- Specification, chapter 4, GetPrimitiveArrayCritical)
abbrev pub passes_critical : Fun → Bool
passes_critical (Vm fun) = false
passes_critical (Refs fun) = false
passes_critical (Frames fun) = false
passes_critical (Exceptions fun) = false
passes_critical (Objects fun) = false
passes_critical (Strings fun) = false
passes_critical (Arrays fun) = false
passes_critical (Monitors fun) = false
passes_critical (Buffers fun) = buffers_passes_critical fun

abbrev pub vm_passes_pending : VmFun → Bool
vm_passes_pending AttachCurrentThread = true
vm_passes_pending DetachCurrentThread = true
vm_passes_pending GetEnv = true
vm_passes_pending NativeEnter = false
vm_passes_pending NativeLeave = true
vm_passes_pending LoadLibrary = false
vm_passes_pending RegisterNatives = false
vm_passes_pending UnregisterNatives = false
vm_passes_pending Collect = false

abbrev pub refs_passes_pending : RefsFun → Bool
refs_passes_pending NewLocalRef = false
refs_passes_pending NewGlobalRef = false
refs_passes_pending NewWeakGlobalRef = false
refs_passes_pending DeleteLocalRef = true
refs_passes_pending DeleteGlobalRef = true
refs_passes_pending DeleteWeakGlobalRef = true
refs_passes_pending IsSameObject = false
refs_passes_pending GetObjectRefType = false

abbrev pub frames_passes_pending : FramesFun → Bool
frames_passes_pending PushLocalFrame = true
frames_passes_pending PopLocalFrame = true
frames_passes_pending EnsureLocalCapacity = false

abbrev pub exceptions_passes_pending : ExceptionsFun → Bool
exceptions_passes_pending Throw = false
exceptions_passes_pending ExceptionOccurred = true
exceptions_passes_pending ExceptionDescribe = true
exceptions_passes_pending ExceptionClear = true
exceptions_passes_pending ExceptionCheck = true

abbrev pub monitors_passes_pending : MonitorsFun → Bool
monitors_passes_pending MonitorEnter = false
monitors_passes_pending MonitorExit = true

abbrev pub buffers_passes_pending : BuffersFun → Bool
buffers_passes_pending (GetArrayElements element) = false
buffers_passes_pending (ReleaseArrayElements element) = true
buffers_passes_pending GetStringChars = false
buffers_passes_pending ReleaseStringChars = true
buffers_passes_pending GetStringUTFChars = false
buffers_passes_pending ReleaseStringUTFChars = true
buffers_passes_pending GetPrimitiveArrayCritical = false
buffers_passes_pending ReleasePrimitiveArrayCritical = true
buffers_passes_pending GetStringCritical = false
buffers_passes_pending ReleaseStringCritical = true
buffers_passes_pending BufferRead = true
buffers_passes_pending BufferWrite = true

-- with an exception pending (JNI Specification, chapter 2, "Exceptions and Error Codes")
abbrev pub passes_pending : Fun → Bool
passes_pending (Vm fun) = vm_passes_pending fun
passes_pending (Refs fun) = refs_passes_pending fun
passes_pending (Frames fun) = frames_passes_pending fun
passes_pending (Exceptions fun) = exceptions_passes_pending fun
passes_pending (Objects fun) = false
passes_pending (Strings fun) = false
passes_pending (Arrays fun) = false
passes_pending (Monitors fun) = monitors_passes_pending fun
passes_pending (Buffers fun) = buffers_passes_pending fun
