-- Rows on critical regions, and on what is pinned in them.
use Rattle.std.specs.Prelude.{pos, negsuc, codes, List, [], ◌∷◌}
use Rattle.jg_words.specs.declared.object.Primitive.TheVariants.{Int}
use Rattle.jg_words.specs.declared.value.Value.TheVariants.{Ok as Done, Number as Amount, Buffer as Lent, Environment, List as Listed}
use Rattle.jg_words.specs.declared.rule.Rule.TheVariants.{WrongThread, Detached, InCritical, DeadReference, WrongRefKind, NullReference, BadBuffer, Pinned}
use Rattle.jg_words.specs.declared.call.Call.TheVariants.{Vm, Refs, Frames, Exceptions, Objects, Strings, Arrays, Monitors, Buffers}
use Rattle.jg_words.specs.declared.call.vm.VmCall.TheVariants.{AttachCurrentThread, DetachCurrentThread, GetEnv, Collect}
use Rattle.jg_words.specs.declared.call.refs.RefsCall.TheVariants.{NewLocalRef, NewGlobalRef, NewWeakGlobalRef, DeleteLocalRef, DeleteGlobalRef, DeleteWeakGlobalRef}
use Rattle.jg_words.specs.declared.call.frames.FramesCall.TheVariants.{PushLocalFrame}
use Rattle.jg_words.specs.declared.call.exceptions.ExceptionsCall.TheVariants.{ExceptionCheck}
use Rattle.jg_words.specs.declared.call.objects.ObjectsCall.TheVariants.{FindClass}
use Rattle.jg_words.specs.declared.call.strings.StringsCall.TheVariants.{NewString}
use Rattle.jg_words.specs.declared.call.arrays.ArraysCall.TheVariants.{NewArray, GetArrayLength, GetArrayRegion}
use Rattle.jg_words.specs.declared.call.monitors.MonitorsCall.TheVariants.{MonitorEnter, MonitorExit}
use Rattle.jg_words.specs.declared.call.buffers.BuffersCall.TheVariants.{GetArrayElements, ReleaseArrayElements, GetStringChars, ReleaseStringChars, GetPrimitiveArrayCritical, ReleasePrimitiveArrayCritical, GetStringCritical, ReleaseStringCritical, BufferRead, BufferWrite}
use Rattle.jg_test_rows.specs.Lines.{Line, line, bare, env, environment, local, global, weak, buffer, gives, hands_out, denies}

-- critical regions may be nested, and the last release ends them; before that other calls are denied
abbrev pub nested_critical : List Line
nested_critical =
    line 1 bare (Vm AttachCurrentThread) (gives (Environment (environment 1 1)))
    ∷ line 1 (env 1 1) (Arrays (NewArray Int (pos 1))) (hands_out (local 1 1) 15)
    ∷ line 1 (env 1 1) (Buffers (GetPrimitiveArrayCritical (local 1 1))) (gives (Lent (buffer 1 1)))
    ∷ line 1 (env 1 1) (Buffers (GetPrimitiveArrayCritical (local 1 1))) (gives (Lent (buffer 1 2)))
    ∷ line 1 bare (Buffers (BufferWrite (buffer 1 1) (pos 0) (pos 7))) (gives Done)
    ∷ line 1 bare (Buffers (BufferRead (buffer 1 2) (pos 0))) (gives (Amount (pos 7)))
    ∷ line 1 (env 1 1) (Buffers (ReleasePrimitiveArrayCritical (local 1 1) (buffer 1 1) (pos 2))) (gives Done)
    ∷ line 1 (env 1 1) (Arrays (GetArrayLength (local 9 9))) (denies InCritical)
    ∷ line 1 (env 1 1) (Arrays (GetArrayLength (local 1 1))) (denies InCritical)
    ∷ line 1 (env 1 1) (Buffers (ReleasePrimitiveArrayCritical (local 1 1) (buffer 1 2) (pos 1))) (gives Done)
    ∷ line 1 (env 1 1) (Arrays (GetArrayLength (local 1 1))) (denies InCritical)
    ∷ line 1 (env 1 1) (Buffers (ReleasePrimitiveArrayCritical (local 1 1) (buffer 1 2) (pos 0))) (gives Done)
    ∷ line 1 (env 1 1) (Arrays (GetArrayLength (local 1 1))) (gives (Amount (pos 1)))
    ∷ line 1 (env 1 1) (Arrays (GetArrayRegion Int (local 1 1) (pos 0) (pos 1))) (gives (Listed (pos 7 ∷ [])))
    ∷ []

-- while an array is pinned through a global reference, no thread can delete that reference
abbrev pub pin_through_global : List Line
pin_through_global =
    line 1 bare (Vm AttachCurrentThread) (gives (Environment (environment 1 1)))
    ∷ line 2 bare (Vm AttachCurrentThread) (gives (Environment (environment 2 1)))
    ∷ line 1 (env 1 1) (Arrays (NewArray Int (pos 2))) (hands_out (local 1 1) 15)
    ∷ line 1 (env 1 1) (Refs (NewGlobalRef (local 1 1))) (hands_out (global 1 2) 15)
    ∷ line 1 (env 1 1) (Buffers (GetPrimitiveArrayCritical (global 1 2))) (gives (Lent (buffer 1 1)))
    ∷ line 2 (env 2 1) (Refs (DeleteGlobalRef (global 1 2))) (denies Pinned)
    ∷ line 1 (env 1 1) (Buffers (ReleasePrimitiveArrayCritical (global 1 2) (buffer 1 1) (pos 0))) (gives Done)
    ∷ line 2 (env 2 1) (Refs (DeleteGlobalRef (global 1 2))) (gives Done)
    ∷ line 1 (env 1 1) (Arrays (GetArrayLength (global 1 2))) (denies DeadReference)
    ∷ []

-- an array that is pinned through a weak reference isn't collected
abbrev pub pin_through_weak : List Line
pin_through_weak =
    line 1 bare (Vm AttachCurrentThread) (gives (Environment (environment 1 1)))
    ∷ line 1 (env 1 1) (Arrays (NewArray Int (pos 1))) (hands_out (local 1 1) 15)
    ∷ line 1 (env 1 1) (Refs (NewWeakGlobalRef (local 1 1))) (hands_out (weak 1 2) 15)
    ∷ line 1 (env 1 1) (Refs (DeleteLocalRef (local 1 1))) (gives Done)
    ∷ line 1 (env 1 1) (Buffers (GetPrimitiveArrayCritical (weak 1 2))) (gives (Lent (buffer 1 1)))
    ∷ line 0 bare (Vm Collect) (gives (Amount (pos 0)))
    ∷ line 1 bare (Buffers (BufferRead (buffer 1 1) (pos 0))) (gives (Amount (pos 0)))
    ∷ line 1 (env 1 1) (Buffers (ReleasePrimitiveArrayCritical (weak 1 2) (buffer 1 1) (pos 0))) (gives Done)
    ∷ line 0 bare (Vm Collect) (gives (Amount (pos 1)))
    ∷ line 1 (env 1 1) (Arrays (GetArrayLength (weak 1 2))) (denies NullReference)
    ∷ []

-- in a critical region the four critical functions, BufferRead and BufferWrite pass, and no others
abbrev pub calls_in_a_region : List Line
calls_in_a_region =
    line 1 bare (Vm AttachCurrentThread) (gives (Environment (environment 1 1)))
    ∷ line 1 (env 1 1) (Arrays (NewArray Int (pos 2))) (hands_out (local 1 1) 15)
    ∷ line 1 (env 1 1) (Strings (NewString (pos 65 ∷ pos 66 ∷ []))) (hands_out (local 1 2) 16)
    ∷ line 1 (env 1 1) (Buffers (GetArrayElements Int (local 1 1))) (gives (Lent (buffer 1 1)))
    ∷ line 1 (env 1 1) (Buffers (GetStringChars (local 1 2))) (gives (Lent (buffer 1 2)))
    ∷ line 1 (env 1 1) (Buffers (GetPrimitiveArrayCritical (local 1 1))) (gives (Lent (buffer 1 3)))
    ∷ line 1 (env 1 1) (Buffers (GetStringCritical (local 1 2))) (gives (Lent (buffer 1 4)))
    ∷ line 1 bare (Buffers (BufferWrite (buffer 1 3) (pos 1) (pos 7))) (gives Done)
    ∷ line 1 bare (Buffers (BufferRead (buffer 1 4) (pos 1))) (gives (Amount (pos 66)))
    ∷ line 1 bare (Buffers (BufferWrite (buffer 1 1) (pos 1) (pos 8))) (gives Done)
    ∷ line 1 bare (Buffers (BufferRead (buffer 1 2) (pos 0))) (gives (Amount (pos 65)))
    ∷ line 1 (env 1 1) (Buffers (BufferRead (buffer 1 3) (pos 1))) (gives (Amount (pos 7)))
    ∷ line 1 bare (Vm GetEnv) (denies InCritical)
    ∷ line 1 bare (Vm AttachCurrentThread) (denies InCritical)
    ∷ line 1 bare (Vm DetachCurrentThread) (denies InCritical)
    ∷ line 1 (env 1 1) (Exceptions ExceptionCheck) (denies InCritical)
    ∷ line 1 (env 1 1) (Refs (DeleteLocalRef (local 1 1))) (denies InCritical)
    ∷ line 1 (env 1 1) (Frames (PushLocalFrame (negsuc 0))) (denies InCritical)
    ∷ line 1 (env 1 1) (Refs (NewLocalRef (local 9 9))) (denies InCritical)
    ∷ line 1 (env 1 1) (Objects (FindClass (codes "no/Such"))) (denies InCritical)
    ∷ line 1 (env 1 1) (Buffers (GetArrayElements Int (local 1 1))) (denies InCritical)
    ∷ line 1 (env 1 1) (Buffers (ReleaseArrayElements Int (local 1 1) (buffer 1 1) (pos 0))) (denies InCritical)
    ∷ line 1 (env 1 1) (Buffers (ReleaseStringChars (local 1 2) (buffer 1 2))) (denies InCritical)
    ∷ line 1 (env 1 1) (Monitors (MonitorExit (local 1 1))) (denies InCritical)
    ∷ line 1 bare (Strings (NewString [])) (denies Detached)
    ∷ line 1 (env 2 1) (Strings (NewString [])) (denies WrongThread)
    ∷ line 1 bare (Vm Collect) (denies WrongThread)
    ∷ line 1 (env 1 1) (Buffers (ReleaseStringCritical (local 1 2) (buffer 1 4))) (gives Done)
    ∷ line 1 bare (Vm GetEnv) (denies InCritical)
    ∷ line 1 (env 1 1) (Buffers (ReleasePrimitiveArrayCritical (local 1 1) (buffer 1 3) (pos 0))) (gives Done)
    ∷ line 1 bare (Vm GetEnv) (gives (Environment (environment 1 1)))
    ∷ line 1 (env 1 1) (Arrays (GetArrayRegion Int (local 1 1) (pos 0) (pos 2))) (gives (Listed (pos 0 ∷ pos 7 ∷ [])))
    ∷ line 1 (env 1 1) (Buffers (ReleaseArrayElements Int (local 1 1) (buffer 1 1) (pos 0))) (gives Done)
    ∷ line 1 (env 1 1) (Arrays (GetArrayRegion Int (local 1 1) (pos 0) (pos 2))) (gives (Listed (pos 0 ∷ pos 8 ∷ [])))
    ∷ []

-- a critical region is one thread's: the others' calls go on, and so does the collector
abbrev pub other_threads_go_on : List Line
other_threads_go_on =
    line 1 bare (Vm AttachCurrentThread) (gives (Environment (environment 1 1)))
    ∷ line 2 bare (Vm AttachCurrentThread) (gives (Environment (environment 2 1)))
    ∷ line 1 (env 1 1) (Arrays (NewArray Int (pos 2))) (hands_out (local 1 1) 15)
    ∷ line 1 (env 1 1) (Refs (NewGlobalRef (local 1 1))) (hands_out (global 1 2) 15)
    ∷ line 1 (env 1 1) (Buffers (GetPrimitiveArrayCritical (local 1 1))) (gives (Lent (buffer 1 1)))
    ∷ line 2 (env 2 1) (Arrays (GetArrayLength (global 1 2))) (gives (Amount (pos 2)))
    ∷ line 2 (env 2 1) (Strings (NewString (pos 65 ∷ []))) (hands_out (local 2 1) 16)
    ∷ line 2 (env 2 1) (Buffers (GetStringChars (local 2 1))) (gives (Lent (buffer 2 1)))
    ∷ line 2 (env 2 1) (Buffers (ReleaseStringChars (local 2 1) (buffer 2 1))) (gives Done)
    ∷ line 2 (env 2 1) (Refs (DeleteLocalRef (local 2 1))) (gives Done)
    ∷ line 2 (env 2 1) (Monitors (MonitorEnter (global 1 2))) (gives Done)
    ∷ line 0 bare (Vm Collect) (gives (Amount (pos 1)))
    ∷ line 2 (env 2 1) (Buffers (GetPrimitiveArrayCritical (global 1 2))) (gives (Lent (buffer 2 2)))
    ∷ line 1 (env 1 1) (Buffers (ReleasePrimitiveArrayCritical (local 1 1) (buffer 1 1) (pos 0))) (gives Done)
    ∷ line 1 (env 1 1) (Arrays (GetArrayLength (local 1 1))) (gives (Amount (pos 2)))
    ∷ line 2 (env 2 1) (Arrays (GetArrayLength (global 1 2))) (denies InCritical)
    ∷ line 2 bare (Vm DetachCurrentThread) (denies InCritical)
    ∷ line 0 bare (Vm Collect) (gives (Amount (pos 0)))
    ∷ line 2 (env 2 1) (Buffers (ReleasePrimitiveArrayCritical (global 1 2) (buffer 2 2) (pos 0))) (gives Done)
    ∷ line 2 bare (Vm DetachCurrentThread) (gives Done)
    ∷ []

-- a pinned buffer is read, written and released by the thread alone that it was lent to
abbrev pub a_pin_is_its_makers : List Line
a_pin_is_its_makers =
    line 1 bare (Vm AttachCurrentThread) (gives (Environment (environment 1 1)))
    ∷ line 2 bare (Vm AttachCurrentThread) (gives (Environment (environment 2 1)))
    ∷ line 1 (env 1 1) (Arrays (NewArray Int (pos 2))) (hands_out (local 1 1) 15)
    ∷ line 1 (env 1 1) (Refs (NewGlobalRef (local 1 1))) (hands_out (global 1 2) 15)
    ∷ line 1 (env 1 1) (Strings (NewString (pos 65 ∷ []))) (hands_out (local 1 3) 16)
    ∷ line 1 (env 1 1) (Refs (NewGlobalRef (local 1 3))) (hands_out (global 1 4) 16)
    ∷ line 1 (env 1 1) (Buffers (GetPrimitiveArrayCritical (global 1 2))) (gives (Lent (buffer 1 1)))
    ∷ line 1 (env 1 1) (Buffers (GetStringCritical (global 1 4))) (gives (Lent (buffer 1 2)))
    ∷ line 2 bare (Buffers (BufferRead (buffer 1 1) (pos 0))) (denies BadBuffer)
    ∷ line 2 (env 2 1) (Buffers (BufferRead (buffer 1 1) (pos 2))) (denies BadBuffer)
    ∷ line 2 bare (Buffers (BufferWrite (buffer 1 1) (pos 0) (pos 1))) (denies BadBuffer)
    ∷ line 2 bare (Buffers (BufferRead (buffer 1 2) (pos 0))) (denies BadBuffer)
    ∷ line 3 bare (Buffers (BufferRead (buffer 1 1) (pos 0))) (denies BadBuffer)
    ∷ line 0 bare (Buffers (BufferRead (buffer 1 1) (pos 0))) (denies WrongThread)
    ∷ line 2 (env 2 1) (Buffers (ReleasePrimitiveArrayCritical (global 1 2) (buffer 1 1) (pos 0))) (denies BadBuffer)
    ∷ line 2 (env 2 1) (Buffers (ReleasePrimitiveArrayCritical (global 1 2) (buffer 1 1) (pos 3))) (denies BadBuffer)
    ∷ line 2 (env 2 1) (Buffers (ReleaseStringCritical (global 1 4) (buffer 1 2))) (denies BadBuffer)
    ∷ line 2 (env 2 1) (Buffers (GetPrimitiveArrayCritical (global 1 2))) (gives (Lent (buffer 2 1)))
    ∷ line 1 (env 1 1) (Buffers (ReleasePrimitiveArrayCritical (global 1 2) (buffer 2 1) (pos 0))) (denies BadBuffer)
    ∷ line 1 bare (Buffers (BufferRead (buffer 2 1) (pos 0))) (denies BadBuffer)
    ∷ line 2 (env 2 1) (Buffers (ReleasePrimitiveArrayCritical (global 1 2) (buffer 2 1) (pos 0))) (gives Done)
    ∷ line 1 bare (Buffers (BufferRead (buffer 1 1) (pos 0))) (gives (Amount (pos 0)))
    ∷ line 1 (env 1 1) (Buffers (ReleaseStringCritical (global 1 4) (buffer 1 2))) (gives Done)
    ∷ line 1 (env 1 1) (Buffers (ReleasePrimitiveArrayCritical (global 1 2) (buffer 1 1) (pos 0))) (gives Done)
    ∷ line 1 bare (Buffers (BufferRead (buffer 1 1) (pos 0))) (denies BadBuffer)
    ∷ line 1 (env 1 1) (Buffers (ReleasePrimitiveArrayCritical (global 1 2) (buffer 1 1) (pos 0))) (denies BadBuffer)
    ∷ []

-- the very reference through which a pin was made stays, global or weak; others may be deleted, and a copy keeps none
abbrev pub the_pinning_reference_stays : List Line
the_pinning_reference_stays =
    line 1 bare (Vm AttachCurrentThread) (gives (Environment (environment 1 1)))
    ∷ line 2 bare (Vm AttachCurrentThread) (gives (Environment (environment 2 1)))
    ∷ line 1 (env 1 1) (Arrays (NewArray Int (pos 1))) (hands_out (local 1 1) 15)
    ∷ line 1 (env 1 1) (Refs (NewGlobalRef (local 1 1))) (hands_out (global 1 2) 15)
    ∷ line 1 (env 1 1) (Refs (NewGlobalRef (local 1 1))) (hands_out (global 1 3) 15)
    ∷ line 1 (env 1 1) (Refs (NewWeakGlobalRef (local 1 1))) (hands_out (weak 1 4) 15)
    ∷ line 1 (env 1 1) (Refs (NewWeakGlobalRef (local 1 1))) (hands_out (weak 1 5) 15)
    ∷ line 1 (env 1 1) (Buffers (GetArrayElements Int (global 1 3))) (gives (Lent (buffer 1 1)))
    ∷ line 1 (env 1 1) (Buffers (GetPrimitiveArrayCritical (global 1 2))) (gives (Lent (buffer 1 2)))
    ∷ line 1 (env 1 1) (Buffers (GetPrimitiveArrayCritical (global 1 2))) (gives (Lent (buffer 1 3)))
    ∷ line 1 (env 1 1) (Buffers (GetPrimitiveArrayCritical (weak 1 4))) (gives (Lent (buffer 1 4)))
    ∷ line 2 (env 2 1) (Refs (DeleteGlobalRef (global 1 3))) (gives Done)
    ∷ line 2 (env 2 1) (Refs (DeleteWeakGlobalRef (weak 1 5))) (gives Done)
    ∷ line 2 (env 2 1) (Refs (DeleteGlobalRef (global 1 2))) (denies Pinned)
    ∷ line 2 (env 2 1) (Refs (DeleteWeakGlobalRef (weak 1 4))) (denies Pinned)
    ∷ line 2 (env 2 1) (Refs (DeleteGlobalRef (weak 1 4))) (denies WrongRefKind)
    ∷ line 1 (env 1 1) (Refs (DeleteGlobalRef (global 1 2))) (denies InCritical)
    ∷ line 1 (env 1 1) (Buffers (ReleasePrimitiveArrayCritical (local 1 1) (buffer 1 2) (pos 0))) (gives Done)
    ∷ line 2 (env 2 1) (Refs (DeleteGlobalRef (global 1 2))) (denies Pinned)
    ∷ line 1 (env 1 1) (Buffers (ReleasePrimitiveArrayCritical (weak 1 4) (buffer 1 3) (pos 1))) (gives Done)
    ∷ line 2 (env 2 1) (Refs (DeleteGlobalRef (global 1 2))) (denies Pinned)
    ∷ line 1 (env 1 1) (Buffers (ReleasePrimitiveArrayCritical (weak 1 4) (buffer 1 3) (pos 2))) (gives Done)
    ∷ line 2 (env 2 1) (Refs (DeleteGlobalRef (global 1 2))) (gives Done)
    ∷ line 2 (env 2 1) (Refs (DeleteWeakGlobalRef (weak 1 4))) (denies Pinned)
    ∷ line 1 (env 1 1) (Buffers (ReleasePrimitiveArrayCritical (local 1 1) (buffer 1 4) (pos 0))) (gives Done)
    ∷ line 2 (env 2 1) (Refs (DeleteWeakGlobalRef (weak 1 4))) (gives Done)
    ∷ line 1 (env 1 1) (Buffers (ReleaseArrayElements Int (local 1 1) (buffer 1 1) (pos 2))) (gives Done)
    ∷ line 1 (env 1 1) (Strings (NewString (pos 65 ∷ []))) (hands_out (local 1 6) 16)
    ∷ line 1 (env 1 1) (Refs (NewGlobalRef (local 1 6))) (hands_out (global 1 7) 16)
    ∷ line 1 (env 1 1) (Buffers (GetStringCritical (global 1 7))) (gives (Lent (buffer 1 5)))
    ∷ line 2 (env 2 1) (Refs (DeleteGlobalRef (global 1 7))) (denies Pinned)
    ∷ line 1 (env 1 1) (Buffers (ReleaseStringCritical (local 1 6) (buffer 1 5))) (gives Done)
    ∷ line 2 (env 2 1) (Refs (DeleteGlobalRef (global 1 7))) (gives Done)
    ∷ []

-- a pinned string is held until its last release, also behind a weak reference; a copy holds nothing
abbrev pub held_by_a_pin : List Line
held_by_a_pin =
    line 1 bare (Vm AttachCurrentThread) (gives (Environment (environment 1 1)))
    ∷ line 1 (env 1 1) (Strings (NewString (pos 65 ∷ []))) (hands_out (local 1 1) 15)
    ∷ line 1 (env 1 1) (Refs (NewWeakGlobalRef (local 1 1))) (hands_out (weak 1 2) 15)
    ∷ line 1 (env 1 1) (Buffers (GetStringChars (weak 1 2))) (gives (Lent (buffer 1 1)))
    ∷ line 1 (env 1 1) (Refs (DeleteLocalRef (local 1 1))) (gives Done)
    ∷ line 1 (env 1 1) (Buffers (GetStringCritical (weak 1 2))) (gives (Lent (buffer 1 2)))
    ∷ line 1 (env 1 1) (Buffers (GetStringCritical (weak 1 2))) (gives (Lent (buffer 1 3)))
    ∷ line 0 bare (Vm Collect) (gives (Amount (pos 0)))
    ∷ line 1 (env 1 1) (Buffers (ReleaseStringCritical (weak 1 2) (buffer 1 2))) (gives Done)
    ∷ line 0 bare (Vm Collect) (gives (Amount (pos 0)))
    ∷ line 1 bare (Buffers (BufferRead (buffer 1 3) (pos 0))) (gives (Amount (pos 65)))
    ∷ line 1 (env 1 1) (Buffers (ReleaseStringCritical (weak 1 2) (buffer 1 3))) (gives Done)
    ∷ line 0 bare (Vm Collect) (gives (Amount (pos 1)))
    ∷ line 1 bare (Buffers (BufferRead (buffer 1 1) (pos 0))) (gives (Amount (pos 65)))
    ∷ line 1 (env 1 1) (Buffers (ReleaseStringChars (weak 1 2) (buffer 1 1))) (denies NullReference)
    ∷ line 1 (env 1 1) (Buffers (GetStringCritical (weak 1 2))) (denies NullReference)
    ∷ []
