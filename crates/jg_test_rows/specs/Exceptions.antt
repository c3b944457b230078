-- Rows on exceptions.
use Rattle.std.specs.Prelude.{pos, true, false, List, [], ◌∷◌, codes}
use Rattle.jg_words.specs.declared.object.Primitive.TheVariants.{Int}
use Rattle.jg_words.specs.declared.reference.Ref.TheVariants.{Null}
use Rattle.jg_words.specs.declared.value.Value.TheVariants.{Ok as Done, Truth, Null as NullAnswer, Buffer as Lent, Environment, List as Listed}
use Rattle.jg_words.specs.declared.value.Thrown.TheVariants.{ArrayIndexOutOfBounds, NoClassDefFound}
use Rattle.jg_words.specs.declared.rule.Rule.TheVariants.{Pending, WrongType}
use Rattle.jg_words.specs.declared.call.Call.TheVariants.{Vm, Refs, Frames, Exceptions, Objects, Strings, Arrays, Buffers}
use Rattle.jg_words.specs.declared.call.vm.VmCall.TheVariants.{AttachCurrentThread, DetachCurrentThread, GetEnv}
use Rattle.jg_words.specs.declared.call.refs.RefsCall.TheVariants.{NewLocalRef, DeleteLocalRef, IsSameObject, GetObjectRefType}
use Rattle.jg_words.specs.declared.call.frames.FramesCall.TheVariants.{PushLocalFrame, PopLocalFrame}
use Rattle.jg_words.specs.declared.call.exceptions.ExceptionsCall.TheVariants.{Throw, ExceptionOccurred, ExceptionDescribe, ExceptionClear, ExceptionCheck}
use Rattle.jg_words.specs.declared.call.objects.ObjectsCall.TheVariants.{FindClass, GetObjectClass}
use Rattle.jg_words.specs.declared.call.strings.StringsCall.TheVariants.{NewString, NewStringUTF, GetStringLength, GetStringRegion}
use Rattle.jg_words.specs.declared.call.arrays.ArraysCall.TheVariants.{NewArray, GetArrayLength, GetArrayRegion}
use Rattle.jg_words.specs.declared.call.buffers.BuffersCall.TheVariants.{GetArrayElements, ReleaseArrayElements, GetPrimitiveArrayCritical}
use Rattle.jg_test_rows.specs.Lines.{Line, line, bare, env, environment, local, buffer, gives, hands_out, raises, throws, denies}

-- an exception is pending until it is cleared; what may be called meanwhile, and what may be thrown
abbrev pub pending : List Line
pending =
    line 1 bare (Vm AttachCurrentThread) (gives (Environment (environment 1 1)))
    ∷ line 1 (env 1 1) (Arrays (NewArray Int (pos 3))) (hands_out (local 1 1) 15)
    ∷ line 1 (env 1 1) (Buffers (GetArrayElements Int (local 1 1))) (gives (Lent (buffer 1 1)))
    ∷ line 1 (env 1 1) (Arrays (GetArrayRegion Int (local 1 1) (pos 2) (pos 2))) (throws ArrayIndexOutOfBounds 16)
    ∷ line 1 (env 1 1) (Strings (NewString (pos 65 ∷ []))) (denies Pending)
    ∷ line 1 (env 1 1) (Buffers (GetPrimitiveArrayCritical (local 1 1))) (denies Pending)
    ∷ line 1 (env 1 1) (Buffers (ReleaseArrayElements Int (local 1 1) (buffer 1 1) (pos 0))) (gives Done)
    ∷ line 1 (env 1 1) (Exceptions ExceptionOccurred) (hands_out (local 1 2) 16)
    ∷ line 1 (env 1 1) (Exceptions ExceptionClear) (gives Done)
    ∷ line 1 (env 1 1) (Arrays (GetArrayRegion Int (local 1 1) (pos 1) (pos 2))) (gives (Listed (pos 0 ∷ pos 0 ∷ [])))
    ∷ line 1 (env 1 1) (Strings (NewString (pos 65 ∷ []))) (hands_out (local 1 3) 17)
    ∷ line 1 (env 1 1) (Exceptions (Throw (local 1 3))) (denies WrongType)
    ∷ line 1 (env 1 1) (Exceptions (Throw (local 1 2))) (raises 16)
    ∷ line 1 (env 1 1) (Exceptions ExceptionCheck) (gives (Truth true))
    ∷ line 1 bare (Vm DetachCurrentThread) (gives Done)
    ∷ []

-- each function that may be called with an exception pending, and others that may not
abbrev pub passing_with_an_exception_pending : List Line
passing_with_an_exception_pending =
    line 1 bare (Vm AttachCurrentThread) (gives (Environment (environment 1 1)))
    ∷ line 1 (env 1 1) (Strings (NewString (pos 65 ∷ []))) (hands_out (local 1 1) 15)
    ∷ line 1 (env 1 1) (Objects (FindClass (codes "no/Such"))) (throws NoClassDefFound 16)
    ∷ line 1 (env 1 1) (Exceptions ExceptionCheck) (gives (Truth true))
    ∷ line 1 (env 1 1) (Refs (NewLocalRef (local 1 1))) (denies Pending)
    ∷ line 1 (env 1 1) (Refs (IsSameObject (local 1 1) (local 1 1))) (denies Pending)
    ∷ line 1 (env 1 1) (Refs (GetObjectRefType (local 1 1))) (denies Pending)
    ∷ line 1 (env 1 1) (Strings (NewString [])) (denies Pending)
    ∷ line 1 (env 1 1) (Strings (NewStringUTF [])) (denies Pending)
    ∷ line 1 (env 1 1) (Strings (GetStringLength (local 1 1))) (denies Pending)
    ∷ line 1 (env 1 1) (Strings (GetStringRegion (local 1 1) (pos 0) (pos 0))) (denies Pending)
    ∷ line 1 (env 1 1) (Objects (FindClass (codes "java/lang/Object"))) (denies Pending)
    ∷ line 1 (env 1 1) (Objects (GetObjectClass (local 1 1))) (denies Pending)
    ∷ line 1 (env 1 1) (Arrays (NewArray Int (pos 0))) (denies Pending)
    ∷ line 1 (env 1 1) (Arrays (GetArrayLength (local 1 1))) (denies Pending)
    ∷ line 1 (env 1 1) (Exceptions (Throw (local 1 1))) (denies Pending)
    ∷ line 1 (env 1 1) (Frames (PushLocalFrame (pos 1))) (gives Done)
    ∷ line 1 (env 1 1) (Frames (PopLocalFrame Null)) (gives NullAnswer)
    ∷ line 1 bare (Vm GetEnv) (gives (Environment (environment 1 1)))
    ∷ line 1 bare (Vm AttachCurrentThread) (gives (Environment (environment 1 1)))
    ∷ line 1 (env 1 1) (Refs (DeleteLocalRef (local 1 1))) (gives Done)
    ∷ line 1 (env 1 1) (Exceptions ExceptionOccurred) (hands_out (local 1 2) 16)
    ∷ line 1 (env 1 1) (Exceptions ExceptionOccurred) (hands_out (local 1 3) 16)
    ∷ line 1 (env 1 1) (Refs (IsSameObject (local 1 2) (local 1 3))) (denies Pending)
    ∷ line 1 (env 1 1) (Exceptions ExceptionDescribe) (gives Done)
    ∷ line 1 (env 1 1) (Refs (IsSameObject (local 1 2) (local 1 3))) (gives (Truth true))
    ∷ line 1 (env 1 1) (Exceptions ExceptionOccurred) (gives NullAnswer)
    ∷ line 1 (env 1 1) (Exceptions (Throw (local 1 2))) (raises 16)
    ∷ line 1 bare (Vm DetachCurrentThread) (gives Done)
    ∷ line 1 bare (Vm AttachCurrentThread) (gives (Environment (environment 1 2)))
    ∷ line 1 (env 1 2) (Exceptions ExceptionCheck) (gives (Truth false))
    ∷ []
