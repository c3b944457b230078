-- What gives something back answers no list.
use Rattle.std.proofs.Common.{◌≡◌, true, false, Option, None, Some, ℕ, refl}
use Rattle.jg_words.specs.declared.thread.Tid.{Tid}
use Rattle.jg_words.specs.declared.reference.Ref.TheVariants.{Null, To}
use Rattle.jg_words.specs.declared.value.Value.TheVariants.{Null as NullAnswer}
use Rattle.jg_words.specs.declared.call.Call.{Call}
use Rattle.jg_words.specs.declared.call.Call.TheVariants.{Vm, Refs, Frames, Exceptions, Objects, Strings, Arrays, Monitors, Buffers}
use Rattle.jg_words.specs.declared.call.vm.VmCall.TheVariants.{AttachCurrentThread, DetachCurrentThread, GetEnv, NativeEnter, NativeLeave, LoadLibrary, RegisterNatives, UnregisterNatives, Collect}
use Rattle.jg_words.specs.declared.call.refs.RefsCall.TheVariants.{NewLocalRef, NewGlobalRef, NewWeakGlobalRef, DeleteLocalRef, DeleteGlobalRef, DeleteWeakGlobalRef, IsSameObject, GetObjectRefType}
use Rattle.jg_words.specs.declared.call.frames.FramesCall.TheVariants.{PushLocalFrame, PopLocalFrame, EnsureLocalCapacity}
use Rattle.jg_words.specs.declared.call.exceptions.ExceptionsCall.TheVariants.{Throw, ExceptionOccurred, ExceptionDescribe, ExceptionClear, ExceptionCheck}
use Rattle.jg_words.specs.declared.call.monitors.MonitorsCall.TheVariants.{MonitorEnter, MonitorExit}
use Rattle.jg_words.specs.declared.call.buffers.BuffersCall.TheVariants.{GetArrayElements, ReleaseArrayElements, GetStringChars, ReleaseStringChars, GetStringUTFChars, ReleaseStringUTFChars, GetPrimitiveArrayCritical, ReleasePrimitiveArrayCritical, GetStringCritical, ReleaseStringCritical, BufferRead, BufferWrite}
use Rattle.jg_words.specs.Value.{is_list}
use Rattle.jg_policy.specs.Stated.{StatedSetup}
use Rattle.jg_rules.specs.Parts.{Parts}
use Rattle.jg_rules.specs.Names.{pending}
use Rattle.jg_rules.specs.Answers.{answer, plain, unless_pending}
use Rattle.jg_guard.specs.Cleaning.{cleans_up}

left : (exception : Option ℕ) → is_list (unless_pending exception (plain NullAnswer)).reply.value ≡ true → ⊥
left None is = absurd cc
left (Some exception) is = absurd cc

pub listed : (s : StatedSetup) (p : Parts) (t : Tid) (call : Call) → is_list (answer s p t call).reply.value ≡ true → cleans_up call ≡ false
listed s p t (Vm AttachCurrentThread) is = refl
listed s p t (Vm DetachCurrentThread) is = absurd cc
listed s p t (Vm GetEnv) is = refl
listed s p t (Vm (NativeEnter class method signature)) is = refl
listed s p t (Vm (NativeLeave Null)) is = absurd (left (pending p t.0) is)
listed s p t (Vm (NativeLeave (To kind maker n))) is = refl
listed s p t (Vm (LoadLibrary class library)) is = refl
listed s p t (Vm (RegisterNatives class method signature)) is = refl
listed s p t (Vm (UnregisterNatives class)) is = refl
listed s p t (Vm Collect) is = refl
listed s p t (Refs (NewLocalRef r)) is = refl
listed s p t (Refs (NewGlobalRef r)) is = refl
listed s p t (Refs (NewWeakGlobalRef r)) is = refl
listed s p t (Refs (DeleteLocalRef r)) is = absurd cc
listed s p t (Refs (DeleteGlobalRef r)) is = absurd cc
listed s p t (Refs (DeleteWeakGlobalRef r)) is = absurd cc
listed s p t (Refs (IsSameObject r u)) is = refl
listed s p t (Refs (GetObjectRefType r)) is = refl
listed s p t (Frames (PushLocalFrame capacity)) is = refl
listed s p t (Frames (PopLocalFrame Null)) is = absurd cc
listed s p t (Frames (PopLocalFrame (To kind maker n))) is = refl
listed s p t (Frames (EnsureLocalCapacity capacity)) is = refl
listed s p t (Exceptions (Throw r)) is = refl
listed s p t (Exceptions ExceptionOccurred) is = refl
listed s p t (Exceptions ExceptionDescribe) is = absurd cc
listed s p t (Exceptions ExceptionClear) is = absurd cc
listed s p t (Exceptions ExceptionCheck) is = refl
listed s p t (Objects call) is = refl
listed s p t (Strings call) is = refl
listed s p t (Arrays call) is = refl
listed s p t (Monitors (MonitorEnter r)) is = refl
listed s p t (Monitors (MonitorExit r)) is = absurd cc
listed s p t (Buffers (GetArrayElements element r)) is = refl
listed s p t (Buffers (ReleaseArrayElements element r b mode)) is = absurd cc
listed s p t (Buffers (GetStringChars r)) is = refl
listed s p t (Buffers (ReleaseStringChars r b)) is = absurd cc
listed s p t (Buffers (GetStringUTFChars r)) is = refl
listed s p t (Buffers (ReleaseStringUTFChars r b)) is = absurd cc
listed s p t (Buffers (GetPrimitiveArrayCritical r)) is = refl
listed s p t (Buffers (ReleasePrimitiveArrayCritical r b mode)) is = absurd cc
listed s p t (Buffers (GetStringCritical r)) is = refl
listed s p t (Buffers (ReleaseStringCritical r b)) is = absurd cc
listed s p t (Buffers (BufferRead b index)) is = refl
listed s p t (Buffers (BufferWrite b index value)) is = refl
