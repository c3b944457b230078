-- Which calls need no memory: those that give something back.
use Rattle.std.specs.Prelude.{◌≡◌, ◌<◌, Bool, true, false, Option, None}
use Rattle.jg_words.specs.declared.thread.Tid.{Tid}
use Rattle.jg_words.specs.declared.thread.EnvId.{EnvId}
use Rattle.jg_words.specs.declared.reference.Ref.TheVariants.{Null}
use Rattle.jg_words.specs.declared.call.Call.{Call}
use Rattle.jg_words.specs.declared.call.Call.TheVariants.{Vm, Refs, Frames, Exceptions, Monitors, Buffers}
use Rattle.jg_words.specs.declared.call.vm.VmCall.TheVariants.{DetachCurrentThread, NativeLeave}
use Rattle.jg_words.specs.declared.call.refs.RefsCall.TheVariants.{DeleteLocalRef, DeleteGlobalRef, DeleteWeakGlobalRef}
use Rattle.jg_words.specs.declared.call.frames.FramesCall.TheVariants.{PopLocalFrame}
use Rattle.jg_words.specs.declared.call.exceptions.ExceptionsCall.TheVariants.{ExceptionClear, ExceptionDescribe}
use Rattle.jg_words.specs.declared.call.monitors.MonitorsCall.TheVariants.{MonitorExit}
use Rattle.jg_words.specs.declared.call.buffers.BuffersCall.TheVariants.{ReleaseArrayElements, ReleaseStringChars, ReleaseStringUTFChars, ReleasePrimitiveArrayCritical, ReleaseStringCritical}
use Rattle.jg_rules.specs.Effects.{parts}
use Rattle.jg_rules.specs.Rules.{verdict}
use Rattle.jg_guard.specs.Guard.{State}

-- the call gives something back, and makes nothing: a deleted reference, a release of any family, a left monitor, a
-- cleared exception, a detached thread, a frame or a native method that keeps no reference
abbrev pub cleans_up : Call → Bool
cleans_up (Refs (DeleteLocalRef r)) = true
cleans_up (Refs (DeleteGlobalRef r)) = true
cleans_up (Refs (DeleteWeakGlobalRef r)) = true
cleans_up (Buffers (ReleaseArrayElements element array buffer mode)) = true
cleans_up (Buffers (ReleaseStringChars string buffer)) = true
cleans_up (Buffers (ReleaseStringUTFChars string buffer)) = true
cleans_up (Buffers (ReleasePrimitiveArrayCritical array buffer mode)) = true
cleans_up (Buffers (ReleaseStringCritical string buffer)) = true
cleans_up (Monitors (MonitorExit r)) = true
cleans_up (Exceptions ExceptionClear) = true
cleans_up (Exceptions ExceptionDescribe) = true
cleans_up (Vm DetachCurrentThread) = true
cleans_up (Frames (PopLocalFrame Null)) = true
cleans_up (Vm (NativeLeave Null)) = true
cleans_up call = false

-- memory may be wanting for the call: there is no room for its entry, or it passes and gives nothing back
abbrev pub MayWant : State → Tid → Option EnvId → Call → Type 0
MayWant state t env call = 0 < state.spare
    → (verdict state.setup (parts state.setup state.journal) t.0 env call ≡ None) × (cleans_up call ≡ false)
