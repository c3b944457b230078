-- Rows on arrays.
use Rattle.std.specs.Prelude.{pos, negsuc, true, List, [], ◌∷◌, codes}
use Rattle.jg_words.specs.declared.object.Primitive.TheVariants.{Boolean, Byte, Char, Short, Int, Long}
use Rattle.jg_words.specs.declared.reference.Ref.TheVariants.{Null}
use Rattle.jg_words.specs.declared.value.Value.TheVariants.{Ok as Done, Truth, Null as NullAnswer, Environment, List as Listed}
use Rattle.jg_words.specs.declared.value.Thrown.TheVariants.{ArrayIndexOutOfBounds, NoClassDefFound}
use Rattle.jg_words.specs.declared.rule.Rule.TheVariants.{BadArgument, Pending}
use Rattle.jg_words.specs.declared.call.Call.TheVariants.{Vm, Exceptions, Objects, Strings, Arrays}
use Rattle.jg_words.specs.declared.call.vm.VmCall.TheVariants.{AttachCurrentThread}
use Rattle.jg_words.specs.declared.call.exceptions.ExceptionsCall.TheVariants.{ExceptionDescribe, ExceptionClear}
use Rattle.jg_words.specs.declared.call.objects.ObjectsCall.TheVariants.{FindClass, IsInstanceOf, AllocObject}
use Rattle.jg_words.specs.declared.call.strings.StringsCall.TheVariants.{NewString}
use Rattle.jg_words.specs.declared.call.arrays.ArraysCall.TheVariants.{NewArray, GetArrayRegion, SetArrayRegion, NewObjectArray, GetObjectArrayElement, SetObjectArrayElement}
use Rattle.jg_test_rows.specs.Lines.{Line, line, bare, env, environment, local, gives, hands_out, throws, denies}

-- arrays of references
abbrev pub object_arrays : List Line
object_arrays =
    line 1 bare (Vm AttachCurrentThread) (gives (Environment (environment 1 1)))
    ∷ line 1 (env 1 1) (Objects (FindClass (codes "java/lang/Object"))) (hands_out (local 1 1) 0)
    ∷ line 1 (env 1 1) (Arrays (NewObjectArray (pos 2) (local 1 1) Null)) (hands_out (local 1 2) 15)
    ∷ line 1 (env 1 1) (Arrays (SetObjectArrayElement (local 1 2) (pos 1) (local 1 1))) (gives Done)
    ∷ line 1 (env 1 1) (Arrays (GetObjectArrayElement (local 1 2) (pos 1))) (hands_out (local 1 3) 0)
    ∷ line 1 (env 1 1) (Arrays (GetObjectArrayElement (local 1 2) (pos 0))) (gives NullAnswer)
    ∷ line 1 (env 1 1) (Arrays (GetObjectArrayElement (local 1 2) (pos 2))) (throws ArrayIndexOutOfBounds 16)
    ∷ line 1 (env 1 1) (Exceptions ExceptionDescribe) (gives Done)
    ∷ line 1 (env 1 1) (Objects (IsInstanceOf (local 1 2) (local 1 1))) (gives (Truth true))
    ∷ line 1 (env 1 1) (Objects (FindClass (codes "no/Such"))) (throws NoClassDefFound 17)
    ∷ line 1 (env 1 1) (Objects (AllocObject Null)) (denies Pending)
    ∷ []

-- which numbers an array can hold
abbrev pub values_of_types : List Line
values_of_types =
    line 1 bare (Vm AttachCurrentThread) (gives (Environment (environment 1 1)))
    ∷ line 1 (env 1 1) (Arrays (NewArray Boolean (pos 2))) (hands_out (local 1 1) 15)
    ∷ line 1 (env 1 1) (Arrays (SetArrayRegion Boolean (local 1 1) (pos 0) (pos 0 ∷ pos 1 ∷ []))) (gives Done)
    ∷ line 1 (env 1 1) (Arrays (SetArrayRegion Boolean (local 1 1) (pos 0) (pos 2 ∷ []))) (denies BadArgument)
    ∷ line 1 (env 1 1) (Arrays (SetArrayRegion Boolean (local 1 1) (pos 0) (negsuc 0 ∷ []))) (denies BadArgument)
    ∷ line 1 (env 1 1) (Arrays (GetArrayRegion Boolean (local 1 1) (pos 0) (pos 2)))
    (gives (Listed (pos 0 ∷ pos 1 ∷ [])))
    ∷ line 1 (env 1 1) (Arrays (NewArray Byte (pos 2))) (hands_out (local 1 2) 16)
    ∷ line 1 (env 1 1) (Arrays (SetArrayRegion Byte (local 1 2) (pos 0) (negsuc 127 ∷ pos 127 ∷ []))) (gives Done)
    ∷ line 1 (env 1 1) (Arrays (SetArrayRegion Byte (local 1 2) (pos 0) (pos 128 ∷ []))) (denies BadArgument)
    ∷ line 1 (env 1 1) (Arrays (SetArrayRegion Byte (local 1 2) (pos 0) (negsuc 128 ∷ []))) (denies BadArgument)
    ∷ line 1 (env 1 1) (Arrays (GetArrayRegion Byte (local 1 2) (pos 0) (pos 2)))
    (gives (Listed (negsuc 127 ∷ pos 127 ∷ [])))
    ∷ line 1 (env 1 1) (Arrays (NewArray Char (pos 2))) (hands_out (local 1 3) 17)
    ∷ line 1 (env 1 1) (Arrays (SetArrayRegion Char (local 1 3) (pos 0) (pos 0 ∷ pos 65535 ∷ []))) (gives Done)
    ∷ line 1 (env 1 1) (Arrays (SetArrayRegion Char (local 1 3) (pos 0) (pos 65536 ∷ []))) (denies BadArgument)
    ∷ line 1 (env 1 1) (Arrays (SetArrayRegion Char (local 1 3) (pos 0) (negsuc 0 ∷ []))) (denies BadArgument)
    ∷ line 1 (env 1 1) (Arrays (GetArrayRegion Char (local 1 3) (pos 0) (pos 2)))
    (gives (Listed (pos 0 ∷ pos 65535 ∷ [])))
    ∷ line 1 (env 1 1) (Arrays (NewArray Short (pos 2))) (hands_out (local 1 4) 18)
    ∷ line 1 (env 1 1) (Arrays (SetArrayRegion Short (local 1 4) (pos 0) (negsuc 32767 ∷ pos 32767 ∷ []))) (gives Done)
    ∷ line 1 (env 1 1) (Arrays (SetArrayRegion Short (local 1 4) (pos 0) (pos 32768 ∷ []))) (denies BadArgument)
    ∷ line 1 (env 1 1) (Arrays (SetArrayRegion Short (local 1 4) (pos 0) (negsuc 32768 ∷ []))) (denies BadArgument)
    ∷ line 1 (env 1 1) (Arrays (GetArrayRegion Short (local 1 4) (pos 0) (pos 2)))
    (gives (Listed (negsuc 32767 ∷ pos 32767 ∷ [])))
    ∷ line 1 (env 1 1) (Arrays (NewArray Int (pos 2))) (hands_out (local 1 5) 19)
    ∷ line 1 (env 1 1) (Arrays (SetArrayRegion Int (local 1 5) (pos 0) (negsuc 2147483647 ∷ pos 2147483647 ∷ [])))
    (gives Done)
    ∷ line 1 (env 1 1) (Arrays (SetArrayRegion Int (local 1 5) (pos 0) (pos 2147483648 ∷ []))) (denies BadArgument)
    ∷ line 1 (env 1 1) (Arrays (SetArrayRegion Int (local 1 5) (pos 0) (negsuc 2147483648 ∷ []))) (denies BadArgument)
    ∷ line 1 (env 1 1) (Arrays (GetArrayRegion Int (local 1 5) (pos 0) (pos 2)))
    (gives (Listed (negsuc 2147483647 ∷ pos 2147483647 ∷ [])))
    ∷ line 1 (env 1 1) (Arrays (NewArray Long (pos 2))) (hands_out (local 1 6) 20)
    ∷ line 1 (env 1 1) (Arrays (SetArrayRegion Long (local 1 6) (pos 0) (negsuc 9223372036854775807
    ∷ pos 9223372036854775807 ∷ []))) (gives Done)
    ∷ line 1 (env 1 1) (Arrays (GetArrayRegion Long (local 1 6) (pos 0) (pos 2)))
    (gives (Listed (negsuc 9223372036854775807 ∷ pos 9223372036854775807 ∷ [])))
    ∷ []

-- regions of an array at their edges
abbrev pub regions_of_arrays : List Line
regions_of_arrays =
    line 1 bare (Vm AttachCurrentThread) (gives (Environment (environment 1 1)))
    ∷ line 1 (env 1 1) (Arrays (NewArray Int (pos 3))) (hands_out (local 1 1) 15)
    ∷ line 1 (env 1 1) (Arrays (SetArrayRegion Int (local 1 1) (pos 0) (pos 7 ∷ pos 8 ∷ pos 9 ∷ []))) (gives Done)
    ∷ line 1 (env 1 1) (Arrays (GetArrayRegion Int (local 1 1) (pos 0) (pos 0))) (gives (Listed []))
    ∷ line 1 (env 1 1) (Exceptions ExceptionClear) (gives Done)
    ∷ line 1 (env 1 1) (Arrays (GetArrayRegion Int (local 1 1) (pos 0) (pos 3)))
    (gives (Listed (pos 7 ∷ pos 8 ∷ pos 9 ∷ [])))
    ∷ line 1 (env 1 1) (Exceptions ExceptionClear) (gives Done)
    ∷ line 1 (env 1 1) (Arrays (GetArrayRegion Int (local 1 1) (pos 3) (pos 0))) (gives (Listed []))
    ∷ line 1 (env 1 1) (Exceptions ExceptionClear) (gives Done)
    ∷ line 1 (env 1 1) (Arrays (GetArrayRegion Int (local 1 1) (pos 2) (pos 1))) (gives (Listed (pos 9 ∷ [])))
    ∷ line 1 (env 1 1) (Exceptions ExceptionClear) (gives Done)
    ∷ line 1 (env 1 1) (Arrays (GetArrayRegion Int (local 1 1) (pos 1) (pos 2))) (gives (Listed (pos 8 ∷ pos 9 ∷ [])))
    ∷ line 1 (env 1 1) (Exceptions ExceptionClear) (gives Done)
    ∷ line 1 (env 1 1) (Arrays (GetArrayRegion Int (local 1 1) (pos 2) (pos 2))) (throws ArrayIndexOutOfBounds 16)
    ∷ line 1 (env 1 1) (Exceptions ExceptionClear) (gives Done)
    ∷ line 1 (env 1 1) (Arrays (GetArrayRegion Int (local 1 1) (pos 4) (pos 0))) (throws ArrayIndexOutOfBounds 17)
    ∷ line 1 (env 1 1) (Exceptions ExceptionClear) (gives Done)
    ∷ line 1 (env 1 1) (Arrays (GetArrayRegion Int (local 1 1) (pos 3) (pos 1))) (throws ArrayIndexOutOfBounds 18)
    ∷ line 1 (env 1 1) (Exceptions ExceptionClear) (gives Done)
    ∷ line 1 (env 1 1) (Arrays (GetArrayRegion Int (local 1 1) (negsuc 0) (pos 1))) (throws ArrayIndexOutOfBounds 19)
    ∷ line 1 (env 1 1) (Exceptions ExceptionClear) (gives Done)
    ∷ line 1 (env 1 1) (Arrays (GetArrayRegion Int (local 1 1) (pos 0) (negsuc 0))) (throws ArrayIndexOutOfBounds 20)
    ∷ line 1 (env 1 1) (Exceptions ExceptionClear) (gives Done)
    ∷ line 1 (env 1 1) (Arrays (GetArrayRegion Int (local 1 1) (negsuc 0) (negsuc 0))) (throws ArrayIndexOutOfBounds 21)
    ∷ line 1 (env 1 1) (Exceptions ExceptionClear) (gives Done)
    ∷ line 1 (env 1 1) (Arrays (GetArrayRegion Int (local 1 1) (pos 0) (pos 1000))) (throws ArrayIndexOutOfBounds 22)
    ∷ line 1 (env 1 1) (Exceptions ExceptionClear) (gives Done)
    ∷ line 1 (env 1 1) (Arrays (GetArrayRegion Int (local 1 1) (pos 0) (pos 1001))) (denies BadArgument)
    ∷ line 1 (env 1 1) (Exceptions ExceptionClear) (gives Done)
    ∷ line 1 (env 1 1) (Arrays (GetArrayRegion Int (local 1 1) (pos 2147483647) (pos 0)))
    (throws ArrayIndexOutOfBounds 23)
    ∷ line 1 (env 1 1) (Exceptions ExceptionClear) (gives Done)
    ∷ line 1 (env 1 1) (Arrays (GetArrayRegion Int (local 1 1) (pos 2147483647) (pos 1)))
    (throws ArrayIndexOutOfBounds 24)
    ∷ line 1 (env 1 1) (Exceptions ExceptionClear) (gives Done)
    ∷ line 1 (env 1 1) (Arrays (GetArrayRegion Int (local 1 1) (pos 2147483647) (pos 1000)))
    (throws ArrayIndexOutOfBounds 25)
    ∷ line 1 (env 1 1) (Exceptions ExceptionClear) (gives Done)
    ∷ line 1 (env 1 1) (Arrays (GetArrayRegion Int (local 1 1) (pos 2147483647) (pos 2147483647))) (denies BadArgument)
    ∷ line 1 (env 1 1) (Exceptions ExceptionClear) (gives Done)
    ∷ line 1 (env 1 1) (Arrays (GetArrayRegion Int (local 1 1) (pos 0) (pos 2147483647))) (denies BadArgument)
    ∷ line 1 (env 1 1) (Exceptions ExceptionClear) (gives Done)
    ∷ line 1 (env 1 1) (Arrays (GetArrayRegion Int (local 1 1) (negsuc 2147483647) (negsuc 2147483647)))
    (throws ArrayIndexOutOfBounds 26)
    ∷ line 1 (env 1 1) (Exceptions ExceptionClear) (gives Done)
    ∷ []

-- what is written into a region
abbrev pub writes_of_regions : List Line
writes_of_regions =
    line 1 bare (Vm AttachCurrentThread) (gives (Environment (environment 1 1)))
    ∷ line 1 (env 1 1) (Arrays (NewArray Byte (pos 3))) (hands_out (local 1 1) 15)
    ∷ line 1 (env 1 1) (Arrays (SetArrayRegion Byte (local 1 1) (pos 0) (pos 1 ∷ pos 2 ∷ pos 3 ∷ []))) (gives Done)
    ∷ line 1 (env 1 1) (Exceptions ExceptionClear) (gives Done)
    ∷ line 1 (env 1 1) (Arrays (SetArrayRegion Byte (local 1 1) (pos 3) [])) (gives Done)
    ∷ line 1 (env 1 1) (Exceptions ExceptionClear) (gives Done)
    ∷ line 1 (env 1 1) (Arrays (SetArrayRegion Byte (local 1 1) (pos 4) [])) (throws ArrayIndexOutOfBounds 16)
    ∷ line 1 (env 1 1) (Exceptions ExceptionClear) (gives Done)
    ∷ line 1 (env 1 1) (Arrays (SetArrayRegion Byte (local 1 1) (pos 2) (pos 5 ∷ pos 6 ∷ [])))
    (throws ArrayIndexOutOfBounds 17)
    ∷ line 1 (env 1 1) (Exceptions ExceptionClear) (gives Done)
    ∷ line 1 (env 1 1) (Arrays (SetArrayRegion Byte (local 1 1) (negsuc 0) (pos 5 ∷ [])))
    (throws ArrayIndexOutOfBounds 18)
    ∷ line 1 (env 1 1) (Exceptions ExceptionClear) (gives Done)
    ∷ line 1 (env 1 1) (Arrays (SetArrayRegion Byte (local 1 1) (pos 2147483647) (pos 5 ∷ [])))
    (throws ArrayIndexOutOfBounds 19)
    ∷ line 1 (env 1 1) (Exceptions ExceptionClear) (gives Done)
    ∷ line 1 (env 1 1) (Arrays (SetArrayRegion Byte (local 1 1) (pos 2) (pos 127 ∷ []))) (gives Done)
    ∷ line 1 (env 1 1) (Exceptions ExceptionClear) (gives Done)
    ∷ line 1 (env 1 1) (Arrays (SetArrayRegion Byte (local 1 1) (pos 1) (negsuc 127 ∷ []))) (gives Done)
    ∷ line 1 (env 1 1) (Exceptions ExceptionClear) (gives Done)
    ∷ line 1 (env 1 1) (Arrays (GetArrayRegion Byte (local 1 1) (pos 0) (pos 3)))
    (gives (Listed (pos 1 ∷ negsuc 127 ∷ pos 127 ∷ [])))
    ∷ []

-- a call that throws writes nothing and hands out nothing
abbrev pub a_throw_changes_nothing_else : List Line
a_throw_changes_nothing_else =
    line 1 bare (Vm AttachCurrentThread) (gives (Environment (environment 1 1)))
    ∷ line 1 (env 1 1) (Arrays (NewArray Int (pos 2))) (hands_out (local 1 1) 15)
    ∷ line 1 (env 1 1) (Arrays (SetArrayRegion Int (local 1 1) (pos 1) (pos 5 ∷ pos 6 ∷ [])))
    (throws ArrayIndexOutOfBounds 16)
    ∷ line 1 (env 1 1) (Exceptions ExceptionClear) (gives Done)
    ∷ line 1 (env 1 1) (Arrays (GetArrayRegion Int (local 1 1) (pos 0) (pos 2))) (gives (Listed (pos 0 ∷ pos 0 ∷ [])))
    ∷ line 1 (env 1 1) (Strings (NewString [])) (hands_out (local 1 2) 17)
    ∷ line 1 (env 1 1) (Arrays (SetArrayRegion Int (local 1 1) (pos 0) (pos 5 ∷ pos 6 ∷ []))) (gives Done)
    ∷ line 1 (env 1 1) (Arrays (GetArrayRegion Int (local 1 1) (pos 0) (pos 2))) (gives (Listed (pos 5 ∷ pos 6 ∷ [])))
    ∷ []
