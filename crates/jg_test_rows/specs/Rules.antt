-- A row that breaks every rule.
use Rattle.std.specs.Prelude.{pos, codes, List, [], ◌∷◌}
use Rattle.jg_words.specs.declared.object.Primitive.TheVariants.{Int, Long}
use Rattle.jg_words.specs.declared.reference.Ref.TheVariants.{Null}
use Rattle.jg_words.specs.declared.value.Value.TheVariants.{Ok as Done, Buffer as Lent, Field, Environment}
use Rattle.jg_words.specs.declared.value.Thrown.TheVariants.{ArrayIndexOutOfBounds}
use Rattle.jg_words.specs.declared.rule.Rule.TheVariants.{WrongThread, Detached, InCritical, Pending, ForeignLocal, DeadReference, WrongRefKind, NullReference, WrongType, BadField, BadBuffer, BadArgument, Pinned, NotOwner, BadFrame, NoNativeAccess, NotLinked}
use Rattle.jg_words.specs.declared.call.Call.TheVariants.{Vm, Refs, Frames, Exceptions, Objects, Strings, Arrays, Monitors, Buffers}
use Rattle.jg_words.specs.declared.call.vm.VmCall.TheVariants.{AttachCurrentThread, NativeEnter, LoadLibrary}
use Rattle.jg_words.specs.declared.call.refs.RefsCall.TheVariants.{NewGlobalRef, DeleteLocalRef, DeleteGlobalRef}
use Rattle.jg_words.specs.declared.call.frames.FramesCall.TheVariants.{PopLocalFrame}
use Rattle.jg_words.specs.declared.call.exceptions.ExceptionsCall.TheVariants.{ExceptionClear, ExceptionCheck}
use Rattle.jg_words.specs.declared.call.objects.ObjectsCall.TheVariants.{FindClass, AllocObject, GetFieldID, GetField}
use Rattle.jg_words.specs.declared.call.strings.StringsCall.TheVariants.{NewString, GetStringLength}
use Rattle.jg_words.specs.declared.call.arrays.ArraysCall.TheVariants.{NewArray, GetArrayLength, GetArrayRegion}
use Rattle.jg_words.specs.declared.call.monitors.MonitorsCall.TheVariants.{MonitorExit}
use Rattle.jg_words.specs.declared.call.buffers.BuffersCall.TheVariants.{GetArrayElements, ReleaseArrayElements, GetPrimitiveArrayCritical, ReleasePrimitiveArrayCritical, BufferWrite}
use Rattle.jg_test_rows.specs.Lines.{Line, line, bare, env, environment, local, global, buffer, field, gives, hands_out, throws, denies}

-- each rule is broken once, in their order
abbrev pub the_seventeen_rules : List Line
the_seventeen_rules =
    line 1 bare (Vm AttachCurrentThread) (gives (Environment (environment 1 1)))
    ∷ line 2 bare (Vm AttachCurrentThread) (gives (Environment (environment 2 1)))
    ∷ line 2 (env 2 1) (Strings (NewString [])) (hands_out (local 2 1) 18)
    ∷ line 1 (env 2 1) (Strings (GetStringLength (local 2 1))) (denies WrongThread)
    ∷ line 1 bare (Exceptions ExceptionCheck) (denies Detached)
    ∷ line 1 (env 1 1) (Arrays (NewArray Int (pos 2))) (hands_out (local 1 1) 19)
    ∷ line 1 (env 1 1) (Refs (NewGlobalRef (local 1 1))) (hands_out (global 1 2) 19)
    ∷ line 1 (env 1 1) (Buffers (GetPrimitiveArrayCritical (global 1 2))) (gives (Lent (buffer 1 1)))
    ∷ line 1 (env 1 1) (Arrays (GetArrayLength (global 1 2))) (denies InCritical)
    ∷ line 1 (env 1 1) (Buffers (ReleasePrimitiveArrayCritical (global 1 2) (buffer 1 1) (pos 0))) (gives Done)
    ∷ line 1 (env 1 1) (Arrays (GetArrayRegion Int (global 1 2) (pos 1) (pos 2))) (throws ArrayIndexOutOfBounds 20)
    ∷ line 1 (env 1 1) (Arrays (GetArrayLength (global 1 2))) (denies Pending)
    ∷ line 1 (env 1 1) (Exceptions ExceptionClear) (gives Done)
    ∷ line 1 (env 1 1) (Strings (GetStringLength (local 2 1))) (denies ForeignLocal)
    ∷ line 1 (env 1 1) (Refs (DeleteLocalRef (local 1 1))) (gives Done)
    ∷ line 1 (env 1 1) (Arrays (GetArrayLength (local 1 1))) (denies DeadReference)
    ∷ line 1 (env 1 1) (Refs (DeleteLocalRef (global 1 2))) (denies WrongRefKind)
    ∷ line 1 (env 1 1) (Arrays (GetArrayLength Null)) (denies NullReference)
    ∷ line 1 (env 1 1) (Strings (GetStringLength (global 1 2))) (denies WrongType)
    ∷ line 1 (env 1 1) (Objects (FindClass (codes "app/Main"))) (hands_out (local 1 3) 15)
    ∷ line 1 (env 1 1) (Objects (AllocObject (local 1 3))) (hands_out (local 1 4) 21)
    ∷ line 1 (env 1 1) (Objects (GetFieldID (local 1 3) (codes "count") (codes "I"))) (gives (Field (field 15 1)))
    ∷ line 1 (env 1 1) (Objects (GetField Long (local 1 4) (field 15 1))) (denies BadField)
    ∷ line 1 (env 1 1) (Buffers (GetArrayElements Int (global 1 2))) (gives (Lent (buffer 1 2)))
    ∷ line 1 (env 1 1) (Buffers (ReleasePrimitiveArrayCritical (global 1 2) (buffer 1 2) (pos 0))) (denies BadBuffer)
    ∷ line 1 bare (Buffers (BufferWrite (buffer 1 2) (pos 2) (pos 7))) (denies BadArgument)
    ∷ line 1 (env 1 1) (Buffers (ReleaseArrayElements Int (global 1 2) (buffer 1 2) (pos 0))) (gives Done)
    ∷ line 1 (env 1 1) (Buffers (GetPrimitiveArrayCritical (global 1 2))) (gives (Lent (buffer 1 3)))
    ∷ line 2 (env 2 1) (Refs (DeleteGlobalRef (global 1 2))) (denies Pinned)
    ∷ line 1 (env 1 1) (Buffers (ReleasePrimitiveArrayCritical (global 1 2) (buffer 1 3) (pos 0))) (gives Done)
    ∷ line 1 (env 1 1) (Monitors (MonitorExit (global 1 2))) (denies NotOwner)
    ∷ line 1 (env 1 1) (Frames (PopLocalFrame Null)) (denies BadFrame)
    ∷ line 1 (env 1 1) (Vm (LoadLibrary (codes "lib/Tool") (codes "tool"))) (denies NoNativeAccess)
    ∷ line 1 (env 1 1) (Vm (NativeEnter (codes "app/Main") (codes "run") (codes "()V"))) (denies NotLinked)
    ∷ []
