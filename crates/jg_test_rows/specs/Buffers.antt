-- Rows on buffers: what is lent, and what becomes of a copy.
use Rattle.std.specs.Prelude.{pos, false, List, [], ◌∷◌}
use Rattle.jg_words.specs.declared.object.Primitive.TheVariants.{Boolean, Byte, Char, Short, Int, Long}
use Rattle.jg_words.specs.declared.reference.Ref.TheVariants.{Null}
use Rattle.jg_words.specs.declared.value.Value.TheVariants.{Ok as Done, Number as Amount, Truth, Buffer as Lent, Environment, List as Listed}
use Rattle.jg_words.specs.declared.value.Thrown.TheVariants.{ArrayIndexOutOfBounds}
use Rattle.jg_words.specs.declared.rule.Rule.TheVariants.{WrongThread, Detached, Pending, ForeignLocal, DeadReference, NullReference, WrongType, BadBuffer, BadArgument}
use Rattle.jg_words.specs.declared.call.Call.TheVariants.{Vm, Refs, Exceptions, Objects, Strings, Arrays, Buffers}
use Rattle.jg_words.specs.declared.call.vm.VmCall.TheVariants.{AttachCurrentThread, DetachCurrentThread, Collect}
use Rattle.jg_words.specs.declared.call.refs.RefsCall.TheVariants.{NewLocalRef, NewGlobalRef, NewWeakGlobalRef, DeleteLocalRef}
use Rattle.jg_words.specs.declared.call.exceptions.ExceptionsCall.TheVariants.{ExceptionClear, ExceptionCheck}
use Rattle.jg_words.specs.declared.call.objects.ObjectsCall.TheVariants.{GetObjectClass}
use Rattle.jg_words.specs.declared.call.strings.StringsCall.TheVariants.{NewString}
use Rattle.jg_words.specs.declared.call.arrays.ArraysCall.TheVariants.{NewArray, GetArrayRegion, SetArrayRegion, NewObjectArray}
use Rattle.jg_words.specs.declared.call.buffers.BuffersCall.TheVariants.{GetArrayElements, ReleaseArrayElements, GetStringChars, ReleaseStringChars, GetStringUTFChars, ReleaseStringUTFChars, GetPrimitiveArrayCritical, ReleasePrimitiveArrayCritical, GetStringCritical, ReleaseStringCritical, BufferRead, BufferWrite}
use Rattle.jg_test_rows.specs.Lines.{Line, line, bare, env, environment, local, global, weak, buffer, gives, hands_out, throws, denies}

-- which objects may be lent: an array of the function's type, in a critical region one of any primitive type, and a
-- string
abbrev pub what_may_be_lent : List Line
what_may_be_lent =
    line 1 bare (Vm AttachCurrentThread) (gives (Environment (environment 1 1)))
    ∷ line 2 bare (Vm AttachCurrentThread) (gives (Environment (environment 2 1)))
    ∷ line 1 (env 1 1) (Arrays (NewArray Int (pos 1))) (hands_out (local 1 1) 15)
    ∷ line 1 (env 1 1) (Strings (NewString (pos 65 ∷ []))) (hands_out (local 1 2) 16)
    ∷ line 1 (env 1 1) (Arrays (NewObjectArray (pos 1) Null Null)) (denies NullReference)
    ∷ line 1 (env 1 1) (Objects (GetObjectClass (local 1 1))) (hands_out (local 1 3) 8)
    ∷ line 1 (env 1 1) (Arrays (NewObjectArray (pos 1) (local 1 3) Null)) (hands_out (local 1 4) 17)
    ∷ line 1 (env 1 1) (Buffers (GetArrayElements Int Null)) (denies NullReference)
    ∷ line 1 (env 1 1) (Buffers (GetArrayElements Int (local 1 9))) (denies DeadReference)
    ∷ line 2 (env 2 1) (Buffers (GetArrayElements Int (local 1 1))) (denies ForeignLocal)
    ∷ line 1 (env 1 1) (Buffers (GetArrayElements Long (local 1 1))) (denies WrongType)
    ∷ line 1 (env 1 1) (Buffers (GetArrayElements Int (local 1 2))) (denies WrongType)
    ∷ line 1 (env 1 1) (Buffers (GetArrayElements Int (local 1 3))) (denies WrongType)
    ∷ line 1 (env 1 1) (Buffers (GetArrayElements Int (local 1 4))) (denies WrongType)
    ∷ line 1 (env 1 1) (Buffers (GetStringChars Null)) (denies NullReference)
    ∷ line 1 (env 1 1) (Buffers (GetStringChars (local 1 1))) (denies WrongType)
    ∷ line 1 (env 1 1) (Buffers (GetStringUTFChars Null)) (denies NullReference)
    ∷ line 1 (env 1 1) (Buffers (GetStringUTFChars (local 1 4))) (denies WrongType)
    ∷ line 1 (env 1 1) (Buffers (GetPrimitiveArrayCritical Null)) (denies NullReference)
    ∷ line 1 (env 1 1) (Buffers (GetPrimitiveArrayCritical (local 1 2))) (denies WrongType)
    ∷ line 1 (env 1 1) (Buffers (GetPrimitiveArrayCritical (local 1 4))) (denies WrongType)
    ∷ line 2 (env 2 1) (Buffers (GetPrimitiveArrayCritical (local 1 1))) (denies ForeignLocal)
    ∷ line 1 (env 1 1) (Buffers (GetStringCritical Null)) (denies NullReference)
    ∷ line 1 (env 1 1) (Buffers (GetStringCritical (local 1 1))) (denies WrongType)
    ∷ line 1 (env 1 1) (Buffers (GetStringCritical (local 1 3))) (denies WrongType)
    ∷ line 1 (env 1 1) (Exceptions ExceptionCheck) (gives (Truth false))
    ∷ line 1 (env 1 1) (Buffers (GetArrayElements Int (local 1 1))) (gives (Lent (buffer 1 1)))
    ∷ []

-- a thread's buffers are counted over all its sessions, and apart from its references; a denied call uses no number
abbrev pub numbers_of_buffers : List Line
numbers_of_buffers =
    line 1 bare (Vm AttachCurrentThread) (gives (Environment (environment 1 1)))
    ∷ line 2 bare (Vm AttachCurrentThread) (gives (Environment (environment 2 1)))
    ∷ line 1 bare (Buffers (BufferRead (buffer 1 1) (pos 0))) (denies BadBuffer)
    ∷ line 1 (env 1 1) (Arrays (NewArray Int (pos 1))) (hands_out (local 1 1) 15)
    ∷ line 1 (env 1 1) (Refs (NewGlobalRef (local 1 1))) (hands_out (global 1 2) 15)
    ∷ line 1 (env 1 1) (Buffers (GetArrayElements Int (local 1 1))) (gives (Lent (buffer 1 1)))
    ∷ line 1 (env 1 1) (Buffers (GetStringChars (local 1 1))) (denies WrongType)
    ∷ line 1 (env 1 1) (Buffers (GetArrayElements Int (global 1 2))) (gives (Lent (buffer 1 2)))
    ∷ line 2 (env 2 1) (Buffers (GetArrayElements Int (global 1 2))) (gives (Lent (buffer 2 1)))
    ∷ line 1 (env 1 1) (Buffers (ReleaseArrayElements Int (local 1 1) (buffer 1 2) (pos 2))) (gives Done)
    ∷ line 1 (env 1 1) (Buffers (GetPrimitiveArrayCritical (local 1 1))) (gives (Lent (buffer 1 3)))
    ∷ line 1 (env 1 1) (Buffers (ReleasePrimitiveArrayCritical (local 1 1) (buffer 1 3) (pos 2))) (gives Done)
    ∷ line 1 bare (Vm DetachCurrentThread) (gives Done)
    ∷ line 1 bare (Vm AttachCurrentThread) (gives (Environment (environment 1 2)))
    ∷ line 1 (env 1 2) (Buffers (GetArrayElements Int (global 1 2))) (gives (Lent (buffer 1 4)))
    ∷ line 1 bare (Buffers (BufferRead (buffer 1 1) (pos 0))) (gives (Amount (pos 0)))
    ∷ line 1 bare (Buffers (BufferRead (buffer 1 2) (pos 0))) (denies BadBuffer)
    ∷ line 1 bare (Buffers (BufferRead (buffer 1 3) (pos 0))) (denies BadBuffer)
    ∷ line 1 bare (Buffers (BufferRead (buffer 1 5) (pos 0))) (denies BadBuffer)
    ∷ line 1 bare (Buffers (BufferRead (buffer 2 2) (pos 0))) (denies BadBuffer)
    ∷ line 1 bare (Buffers (BufferWrite (buffer 0 1) (pos 0) (pos 0))) (denies BadBuffer)
    ∷ line 1 bare (Buffers (BufferRead (buffer 1 0) (pos 0))) (denies BadBuffer)
    ∷ line 1 (env 1 2) (Refs (NewLocalRef (global 1 2))) (hands_out (local 1 3) 15)
    ∷ []

-- a copy outlives its maker's session; any thread may read and write it, and any attached one release it
abbrev pub a_copy_outlives_its_session : List Line
a_copy_outlives_its_session =
    line 1 bare (Vm AttachCurrentThread) (gives (Environment (environment 1 1)))
    ∷ line 1 (env 1 1) (Arrays (NewArray Int (pos 2))) (hands_out (local 1 1) 15)
    ∷ line 1 (env 1 1) (Refs (NewGlobalRef (local 1 1))) (hands_out (global 1 2) 15)
    ∷ line 1 (env 1 1) (Buffers (GetArrayElements Int (local 1 1))) (gives (Lent (buffer 1 1)))
    ∷ line 1 bare (Buffers (BufferWrite (buffer 1 1) (pos 0) (pos 7))) (gives Done)
    ∷ line 2 bare (Buffers (BufferRead (buffer 1 1) (pos 0))) (gives (Amount (pos 7)))
    ∷ line 2 bare (Buffers (BufferWrite (buffer 1 1) (pos 1) (pos 8))) (gives Done)
    ∷ line 1 (env 1 1) (Buffers (BufferRead (buffer 1 1) (pos 1))) (gives (Amount (pos 8)))
    ∷ line 2 (env 1 1) (Buffers (BufferRead (buffer 1 1) (pos 1))) (denies WrongThread)
    ∷ line 0 bare (Buffers (BufferRead (buffer 1 1) (pos 1))) (denies WrongThread)
    ∷ line 0 bare (Buffers (BufferWrite (buffer 1 1) (pos 1) (pos 9))) (denies WrongThread)
    ∷ line 1 bare (Vm DetachCurrentThread) (gives Done)
    ∷ line 1 (env 1 1) (Buffers (BufferRead (buffer 1 1) (pos 1))) (denies Detached)
    ∷ line 1 bare (Buffers (BufferRead (buffer 1 1) (pos 1))) (gives (Amount (pos 8)))
    ∷ line 1 bare (Buffers (ReleaseArrayElements Int (global 1 2) (buffer 1 1) (pos 0))) (denies Detached)
    ∷ line 2 bare (Vm AttachCurrentThread) (gives (Environment (environment 2 1)))
    ∷ line 2 (env 2 1) (Buffers (ReleaseArrayElements Int (local 1 1) (buffer 1 1) (pos 0))) (denies ForeignLocal)
    ∷ line 2 (env 2 1) (Arrays (GetArrayRegion Int (global 1 2) (pos 0) (pos 2))) (gives (Listed (pos 0 ∷ pos 0 ∷ [])))
    ∷ line 2 (env 2 1) (Buffers (ReleaseArrayElements Int (global 1 2) (buffer 1 1) (pos 0))) (gives Done)
    ∷ line 2 (env 2 1) (Arrays (GetArrayRegion Int (global 1 2) (pos 0) (pos 2))) (gives (Listed (pos 7 ∷ pos 8 ∷ [])))
    ∷ line 1 bare (Buffers (BufferRead (buffer 1 1) (pos 0))) (denies BadBuffer)
    ∷ []

-- a copy doesn't hold its object; once that is gone the copy can still be read and written, but never released
abbrev pub a_copy_outlives_its_object : List Line
a_copy_outlives_its_object =
    line 1 bare (Vm AttachCurrentThread) (gives (Environment (environment 1 1)))
    ∷ line 1 (env 1 1) (Arrays (NewArray Short (pos 2))) (hands_out (local 1 1) 15)
    ∷ line 1 (env 1 1) (Refs (NewWeakGlobalRef (local 1 1))) (hands_out (weak 1 2) 15)
    ∷ line 1 (env 1 1) (Buffers (GetArrayElements Short (local 1 1))) (gives (Lent (buffer 1 1)))
    ∷ line 1 (env 1 1) (Strings (NewString (pos 65 ∷ pos 66 ∷ []))) (hands_out (local 1 3) 16)
    ∷ line 1 (env 1 1) (Buffers (GetStringChars (local 1 3))) (gives (Lent (buffer 1 2)))
    ∷ line 1 (env 1 1) (Buffers (GetStringUTFChars (local 1 3))) (gives (Lent (buffer 1 3)))
    ∷ line 1 bare (Buffers (BufferWrite (buffer 1 1) (pos 0) (pos 5))) (gives Done)
    ∷ line 1 (env 1 1) (Refs (DeleteLocalRef (local 1 1))) (gives Done)
    ∷ line 1 (env 1 1) (Refs (DeleteLocalRef (local 1 3))) (gives Done)
    ∷ line 0 bare (Vm Collect) (gives (Amount (pos 2)))
    ∷ line 1 bare (Buffers (BufferRead (buffer 1 1) (pos 0))) (gives (Amount (pos 5)))
    ∷ line 1 bare (Buffers (BufferWrite (buffer 1 1) (pos 1) (pos 32767))) (gives Done)
    ∷ line 1 bare (Buffers (BufferWrite (buffer 1 1) (pos 1) (pos 32768))) (denies BadArgument)
    ∷ line 1 bare (Buffers (BufferRead (buffer 1 1) (pos 1))) (gives (Amount (pos 32767)))
    ∷ line 1 bare (Buffers (BufferRead (buffer 1 1) (pos 2))) (denies BadArgument)
    ∷ line 1 bare (Buffers (BufferRead (buffer 1 2) (pos 1))) (gives (Amount (pos 66)))
    ∷ line 1 bare (Buffers (BufferRead (buffer 1 3) (pos 0))) (gives (Amount (pos 65)))
    ∷ line 1 (env 1 1) (Buffers (ReleaseArrayElements Short (local 1 1) (buffer 1 1) (pos 0))) (denies DeadReference)
    ∷ line 1 (env 1 1) (Buffers (ReleaseArrayElements Short (weak 1 2) (buffer 1 1) (pos 0))) (denies NullReference)
    ∷ line 1 (env 1 1) (Buffers (ReleaseArrayElements Short Null (buffer 1 1) (pos 2))) (denies NullReference)
    ∷ line 1 (env 1 1) (Buffers (ReleaseStringChars (local 1 3) (buffer 1 2))) (denies DeadReference)
    ∷ line 1 (env 1 1) (Arrays (NewArray Short (pos 2))) (hands_out (local 1 4) 17)
    ∷ line 1 (env 1 1) (Buffers (ReleaseArrayElements Short (local 1 4) (buffer 1 1) (pos 0))) (denies BadBuffer)
    ∷ line 1 (env 1 1) (Buffers (ReleaseArrayElements Short (local 1 4) (buffer 1 1) (pos 2))) (denies BadBuffer)
    ∷ line 1 (env 1 1) (Buffers (GetArrayElements Short (weak 1 2))) (denies NullReference)
    ∷ line 1 (env 1 1) (Buffers (GetArrayElements Short (local 1 4))) (gives (Lent (buffer 1 4)))
    ∷ line 1 bare (Buffers (BufferRead (buffer 1 1) (pos 0))) (gives (Amount (pos 5)))
    ∷ []

-- a copy is apart from its object until its release, which puts all its items back
abbrev pub a_copy_is_apart : List Line
a_copy_is_apart =
    line 1 bare (Vm AttachCurrentThread) (gives (Environment (environment 1 1)))
    ∷ line 1 (env 1 1) (Arrays (NewArray Int (pos 2))) (hands_out (local 1 1) 15)
    ∷ line 1 (env 1 1) (Arrays (SetArrayRegion Int (local 1 1) (pos 0) (pos 1 ∷ pos 2 ∷ []))) (gives Done)
    ∷ line 1 (env 1 1) (Buffers (GetArrayElements Int (local 1 1))) (gives (Lent (buffer 1 1)))
    ∷ line 1 (env 1 1) (Buffers (GetArrayElements Int (local 1 1))) (gives (Lent (buffer 1 2)))
    ∷ line 1 (env 1 1) (Arrays (SetArrayRegion Int (local 1 1) (pos 0) (pos 3 ∷ pos 4 ∷ []))) (gives Done)
    ∷ line 1 bare (Buffers (BufferRead (buffer 1 1) (pos 0))) (gives (Amount (pos 1)))
    ∷ line 1 bare (Buffers (BufferWrite (buffer 1 1) (pos 0) (pos 5))) (gives Done)
    ∷ line 1 bare (Buffers (BufferRead (buffer 1 1) (pos 0))) (gives (Amount (pos 5)))
    ∷ line 1 bare (Buffers (BufferRead (buffer 1 2) (pos 0))) (gives (Amount (pos 1)))
    ∷ line 1 (env 1 1) (Arrays (GetArrayRegion Int (local 1 1) (pos 0) (pos 2))) (gives (Listed (pos 3 ∷ pos 4 ∷ [])))
    ∷ line 1 (env 1 1) (Buffers (ReleaseArrayElements Int (local 1 1) (buffer 1 1) (pos 0))) (gives Done)
    ∷ line 1 (env 1 1) (Arrays (GetArrayRegion Int (local 1 1) (pos 0) (pos 2))) (gives (Listed (pos 5 ∷ pos 2 ∷ [])))
    ∷ line 1 (env 1 1) (Buffers (GetArrayElements Int (local 1 1))) (gives (Lent (buffer 1 3)))
    ∷ line 1 bare (Buffers (BufferRead (buffer 1 3) (pos 0))) (gives (Amount (pos 5)))
    ∷ line 1 (env 1 1) (Buffers (ReleaseArrayElements Int (local 1 1) (buffer 1 2) (pos 0))) (gives Done)
    ∷ line 1 (env 1 1) (Arrays (GetArrayRegion Int (local 1 1) (pos 0) (pos 2))) (gives (Listed (pos 1 ∷ pos 2 ∷ [])))
    ∷ line 1 bare (Buffers (BufferRead (buffer 1 3) (pos 0))) (gives (Amount (pos 5)))
    ∷ line 1 (env 1 1) (Strings (NewString (pos 65 ∷ []))) (hands_out (local 1 2) 16)
    ∷ line 1 (env 1 1) (Buffers (GetStringChars (local 1 2))) (gives (Lent (buffer 1 4)))
    ∷ line 1 (env 1 1) (Buffers (GetStringUTFChars (local 1 2))) (gives (Lent (buffer 1 5)))
    ∷ line 1 (env 1 1) (Buffers (ReleaseStringChars (local 1 2) (buffer 1 4))) (gives Done)
    ∷ line 1 bare (Buffers (BufferRead (buffer 1 4) (pos 0))) (denies BadBuffer)
    ∷ line 1 bare (Buffers (BufferRead (buffer 1 5) (pos 0))) (gives (Amount (pos 65)))
    ∷ line 1 (env 1 1) (Buffers (ReleaseStringUTFChars (local 1 2) (buffer 1 5))) (gives Done)
    ∷ line 1 bare (Buffers (BufferRead (buffer 1 5) (pos 0))) (denies BadBuffer)
    ∷ []

-- with an exception pending buffers are read, written and released, but none is lent
abbrev pub buffers_with_an_exception_pending : List Line
buffers_with_an_exception_pending =
    line 1 bare (Vm AttachCurrentThread) (gives (Environment (environment 1 1)))
    ∷ line 1 (env 1 1) (Arrays (NewArray Boolean (pos 1))) (hands_out (local 1 1) 15)
    ∷ line 1 (env 1 1) (Arrays (NewArray Byte (pos 1))) (hands_out (local 1 2) 16)
    ∷ line 1 (env 1 1) (Arrays (NewArray Char (pos 1))) (hands_out (local 1 3) 17)
    ∷ line 1 (env 1 1) (Arrays (NewArray Short (pos 1))) (hands_out (local 1 4) 18)
    ∷ line 1 (env 1 1) (Arrays (NewArray Int (pos 1))) (hands_out (local 1 5) 19)
    ∷ line 1 (env 1 1) (Arrays (NewArray Long (pos 1))) (hands_out (local 1 6) 20)
    ∷ line 1 (env 1 1) (Strings (NewString (pos 65 ∷ []))) (hands_out (local 1 7) 21)
    ∷ line 1 (env 1 1) (Buffers (GetArrayElements Boolean (local 1 1))) (gives (Lent (buffer 1 1)))
    ∷ line 1 (env 1 1) (Buffers (GetArrayElements Byte (local 1 2))) (gives (Lent (buffer 1 2)))
    ∷ line 1 (env 1 1) (Buffers (GetArrayElements Char (local 1 3))) (gives (Lent (buffer 1 3)))
    ∷ line 1 (env 1 1) (Buffers (GetArrayElements Short (local 1 4))) (gives (Lent (buffer 1 4)))
    ∷ line 1 (env 1 1) (Buffers (GetArrayElements Int (local 1 5))) (gives (Lent (buffer 1 5)))
    ∷ line 1 (env 1 1) (Buffers (GetArrayElements Long (local 1 6))) (gives (Lent (buffer 1 6)))
    ∷ line 1 (env 1 1) (Buffers (GetStringChars (local 1 7))) (gives (Lent (buffer 1 7)))
    ∷ line 1 (env 1 1) (Buffers (GetStringUTFChars (local 1 7))) (gives (Lent (buffer 1 8)))
    ∷ line 1 (env 1 1) (Arrays (GetArrayRegion Int (local 1 5) (pos 1) (pos 1))) (throws ArrayIndexOutOfBounds 22)
    ∷ line 1 (env 1 1) (Buffers (GetArrayElements Boolean (local 1 1))) (denies Pending)
    ∷ line 1 (env 1 1) (Buffers (GetArrayElements Byte (local 1 2))) (denies Pending)
    ∷ line 1 (env 1 1) (Buffers (GetArrayElements Char (local 1 3))) (denies Pending)
    ∷ line 1 (env 1 1) (Buffers (GetArrayElements Short (local 1 4))) (denies Pending)
    ∷ line 1 (env 1 1) (Buffers (GetArrayElements Int (local 1 5))) (denies Pending)
    ∷ line 1 (env 1 1) (Buffers (GetArrayElements Long (local 1 6))) (denies Pending)
    ∷ line 1 (env 1 1) (Buffers (GetStringChars (local 1 7))) (denies Pending)
    ∷ line 1 (env 1 1) (Buffers (GetStringUTFChars (local 1 7))) (denies Pending)
    ∷ line 1 (env 1 1) (Buffers (GetPrimitiveArrayCritical (local 1 5))) (denies Pending)
    ∷ line 1 (env 1 1) (Buffers (GetStringCritical (local 1 7))) (denies Pending)
    ∷ line 1 bare (Buffers (BufferWrite (buffer 1 5) (pos 0) (pos 7))) (gives Done)
    ∷ line 1 bare (Buffers (BufferRead (buffer 1 5) (pos 0))) (gives (Amount (pos 7)))
    ∷ line 1 (env 1 1) (Buffers (ReleaseArrayElements Boolean (local 1 1) (buffer 1 1) (pos 0))) (gives Done)
    ∷ line 1 (env 1 1) (Buffers (ReleaseArrayElements Byte (local 1 2) (buffer 1 2) (pos 0))) (gives Done)
    ∷ line 1 (env 1 1) (Buffers (ReleaseArrayElements Char (local 1 3) (buffer 1 3) (pos 0))) (gives Done)
    ∷ line 1 (env 1 1) (Buffers (ReleaseArrayElements Short (local 1 4) (buffer 1 4) (pos 0))) (gives Done)
    ∷ line 1 (env 1 1) (Buffers (ReleaseArrayElements Int (local 1 5) (buffer 1 5) (pos 0))) (gives Done)
    ∷ line 1 (env 1 1) (Buffers (ReleaseArrayElements Long (local 1 6) (buffer 1 6) (pos 0))) (gives Done)
    ∷ line 1 (env 1 1) (Buffers (ReleaseStringChars (local 1 7) (buffer 1 7))) (gives Done)
    ∷ line 1 (env 1 1) (Buffers (ReleaseStringUTFChars (local 1 7) (buffer 1 8))) (gives Done)
    ∷ line 1 (env 1 1) (Buffers (ReleasePrimitiveArrayCritical (local 1 5) (buffer 1 5) (pos 0))) (denies BadBuffer)
    ∷ line 1 (env 1 1) (Buffers (ReleaseStringCritical (local 1 7) (buffer 1 7))) (denies BadBuffer)
    ∷ line 1 (env 1 1) (Exceptions ExceptionClear) (gives Done)
    ∷ line 1 (env 1 1) (Arrays (GetArrayRegion Int (local 1 5) (pos 0) (pos 1))) (gives (Listed (pos 7 ∷ [])))
    ∷ []
