-- Rows on classes and objects.
use Rattle.std.specs.Prelude.{pos, true, false, List, [], ◌∷◌, codes}
use Rattle.jg_words.specs.declared.object.Primitive.TheVariants.{Int, Long}
use Rattle.jg_words.specs.declared.reference.Ref.TheVariants.{Null}
use Rattle.jg_words.specs.declared.value.Value.TheVariants.{Ok as Done, Number as Amount, Truth, Environment, List as Listed}
use Rattle.jg_words.specs.declared.value.Thrown.TheVariants.{ArrayIndexOutOfBounds, NoClassDefFound, StringIndexOutOfBounds}
use Rattle.jg_words.specs.declared.rule.Rule.TheVariants.{NullReference, WrongType}
use Rattle.jg_words.specs.declared.call.Call.TheVariants.{Vm, Refs, Exceptions, Objects, Strings, Arrays}
use Rattle.jg_words.specs.declared.call.vm.VmCall.TheVariants.{AttachCurrentThread}
use Rattle.jg_words.specs.declared.call.refs.RefsCall.TheVariants.{IsSameObject}
use Rattle.jg_words.specs.declared.call.exceptions.ExceptionsCall.TheVariants.{Throw, ExceptionOccurred, ExceptionDescribe, ExceptionClear}
use Rattle.jg_words.specs.declared.call.objects.ObjectsCall.TheVariants.{FindClass, GetObjectClass, IsInstanceOf, AllocObject}
use Rattle.jg_words.specs.declared.call.strings.StringsCall.TheVariants.{NewString, GetStringLength, GetStringUTFLength, GetStringRegion}
use Rattle.jg_words.specs.declared.call.arrays.ArraysCall.TheVariants.{NewArray, GetArrayLength, GetArrayRegion, SetArrayRegion, NewObjectArray, GetObjectArrayElement, SetObjectArrayElement}
use Rattle.jg_test_rows.specs.Lines.{Line, line, bare, env, environment, local, gives, hands_out, raises, throws, denies}

-- class objects have one number each, and an object is an instance of its class and of java/lang/Object
abbrev pub classes_and_instances : List Line
classes_and_instances =
    line 1 bare (Vm AttachCurrentThread) (gives (Environment (environment 1 1)))
    ∷ line 1 (env 1 1) (Objects (FindClass (codes "java/lang/Object"))) (hands_out (local 1 1) 0)
    ∷ line 1 (env 1 1) (Objects (FindClass (codes "java/lang/Class"))) (hands_out (local 1 2) 1)
    ∷ line 1 (env 1 1) (Objects (FindClass (codes "[I"))) (hands_out (local 1 3) 8)
    ∷ line 1 (env 1 1) (Arrays (NewArray Int (pos 1))) (hands_out (local 1 4) 15)
    ∷ line 1 (env 1 1) (Objects (GetObjectClass (local 1 4))) (hands_out (local 1 5) 8)
    ∷ line 1 (env 1 1) (Refs (IsSameObject (local 1 3) (local 1 5))) (gives (Truth true))
    ∷ line 1 (env 1 1) (Objects (GetObjectClass (local 1 5))) (hands_out (local 1 6) 1)
    ∷ line 1 (env 1 1) (Refs (IsSameObject (local 1 6) (local 1 2))) (gives (Truth true))
    ∷ line 1 (env 1 1) (Objects (AllocObject (local 1 1))) (hands_out (local 1 7) 16)
    ∷ line 1 (env 1 1) (Objects (IsInstanceOf (local 1 7) (local 1 1))) (gives (Truth true))
    ∷ line 1 (env 1 1) (Objects (IsInstanceOf (local 1 7) (local 1 2))) (gives (Truth false))
    ∷ line 1 (env 1 1) (Objects (IsInstanceOf (local 1 1) (local 1 2))) (gives (Truth true))
    ∷ line 1 (env 1 1) (Objects (IsInstanceOf Null (local 1 3))) (gives (Truth true))
    ∷ line 1 (env 1 1) (Objects (IsInstanceOf (local 1 4) (local 1 3))) (gives (Truth true))
    ∷ line 1 (env 1 1) (Objects (IsInstanceOf (local 1 4) (local 1 1))) (gives (Truth true))
    ∷ line 1 (env 1 1) (Objects (FindClass (codes "java/lang/NoSuchFieldError"))) (hands_out (local 1 8) 13)
    ∷ line 1 (env 1 1) (Objects (AllocObject (local 1 8))) (hands_out (local 1 9) 17)
    ∷ line 1 (env 1 1) (Exceptions (Throw (local 1 9))) (raises 17)
    ∷ line 1 (env 1 1) (Exceptions ExceptionOccurred) (hands_out (local 1 10) 17)
    ∷ line 1 (env 1 1) (Exceptions ExceptionClear) (gives Done)
    ∷ line 1 (env 1 1) (Refs (IsSameObject (local 1 9) (local 1 10))) (gives (Truth true))
    ∷ line 1 (env 1 1) (Objects (GetObjectClass Null)) (denies NullReference)
    ∷ line 1 (env 1 1) (Objects (AllocObject (local 1 2))) (denies WrongType)
    ∷ line 1 (env 1 1) (Objects (FindClass (codes "="))) (throws NoClassDefFound 18)
    ∷ line 1 (env 1 1) (Exceptions ExceptionOccurred) (hands_out (local 1 11) 18)
    ∷ line 1 (env 1 1) (Exceptions ExceptionDescribe) (gives Done)
    ∷ line 1 (env 1 1) (Objects (GetObjectClass (local 1 11))) (hands_out (local 1 12) 12)
    ∷ line 1 (env 1 1) (Objects (FindClass (codes "java/lang/NoClassDefFoundError"))) (hands_out (local 1 13) 12)
    ∷ line 1 (env 1 1) (Refs (IsSameObject (local 1 12) (local 1 13))) (gives (Truth true))
    ∷ []

-- each class of exceptions that these calls throw
abbrev pub thrown_classes : List Line
thrown_classes =
    line 1 bare (Vm AttachCurrentThread) (gives (Environment (environment 1 1)))
    ∷ line 1 (env 1 1) (Strings (NewString [])) (hands_out (local 1 1) 15)
    ∷ line 1 (env 1 1) (Arrays (NewArray Int (pos 0))) (hands_out (local 1 2) 16)
    ∷ line 1 (env 1 1) (Arrays (GetArrayRegion Int (local 1 2) (pos 0) (pos 1))) (throws ArrayIndexOutOfBounds 17)
    ∷ line 1 (env 1 1) (Exceptions ExceptionOccurred) (hands_out (local 1 3) 17)
    ∷ line 1 (env 1 1) (Exceptions ExceptionClear) (gives Done)
    ∷ line 1 (env 1 1) (Strings (GetStringRegion (local 1 1) (pos 0) (pos 1))) (throws StringIndexOutOfBounds 18)
    ∷ line 1 (env 1 1) (Exceptions ExceptionOccurred) (hands_out (local 1 4) 18)
    ∷ line 1 (env 1 1) (Exceptions ExceptionClear) (gives Done)
    ∷ line 1 (env 1 1) (Objects (FindClass (codes "no/Such"))) (throws NoClassDefFound 19)
    ∷ line 1 (env 1 1) (Exceptions ExceptionOccurred) (hands_out (local 1 5) 19)
    ∷ line 1 (env 1 1) (Exceptions ExceptionClear) (gives Done)
    ∷ line 1 (env 1 1) (Objects (FindClass (codes "java/lang/ArrayIndexOutOfBoundsException")))
    (hands_out (local 1 6) 10)
    ∷ line 1 (env 1 1) (Objects (FindClass (codes "java/lang/StringIndexOutOfBoundsException")))
    (hands_out (local 1 7) 11)
    ∷ line 1 (env 1 1) (Objects (FindClass (codes "java/lang/NoClassDefFoundError"))) (hands_out (local 1 8) 12)
    ∷ line 1 (env 1 1) (Objects (IsInstanceOf (local 1 3) (local 1 6))) (gives (Truth true))
    ∷ line 1 (env 1 1) (Objects (IsInstanceOf (local 1 4) (local 1 7))) (gives (Truth true))
    ∷ line 1 (env 1 1) (Objects (IsInstanceOf (local 1 5) (local 1 8))) (gives (Truth true))
    ∷ line 1 (env 1 1) (Objects (IsInstanceOf (local 1 3) (local 1 7))) (gives (Truth false))
    ∷ []

-- each type of operand refused
abbrev pub wrong_types : List Line
wrong_types =
    line 1 bare (Vm AttachCurrentThread) (gives (Environment (environment 1 1)))
    ∷ line 1 (env 1 1) (Strings (NewString (pos 65 ∷ []))) (hands_out (local 1 1) 15)
    ∷ line 1 (env 1 1) (Arrays (NewArray Long (pos 1))) (hands_out (local 1 2) 16)
    ∷ line 1 (env 1 1) (Objects (FindClass (codes "java/lang/String"))) (hands_out (local 1 3) 2)
    ∷ line 1 (env 1 1) (Arrays (NewObjectArray (pos 1) (local 1 3) (local 1 1))) (hands_out (local 1 4) 17)
    ∷ line 1 (env 1 1) (Exceptions (Throw (local 1 1))) (denies WrongType)
    ∷ line 1 (env 1 1) (Exceptions (Throw (local 1 3))) (denies WrongType)
    ∷ line 1 (env 1 1) (Objects (IsInstanceOf (local 1 1) (local 1 1))) (denies WrongType)
    ∷ line 1 (env 1 1) (Objects (AllocObject (local 1 3))) (denies WrongType)
    ∷ line 1 (env 1 1) (Objects (AllocObject (local 1 1))) (denies WrongType)
    ∷ line 1 (env 1 1) (Strings (GetStringLength (local 1 2))) (denies WrongType)
    ∷ line 1 (env 1 1) (Strings (GetStringUTFLength (local 1 3))) (denies WrongType)
    ∷ line 1 (env 1 1) (Strings (GetStringRegion (local 1 4) (pos 0) (pos 0))) (denies WrongType)
    ∷ line 1 (env 1 1) (Arrays (GetArrayLength (local 1 1))) (denies WrongType)
    ∷ line 1 (env 1 1) (Arrays (GetArrayRegion Int (local 1 2) (pos 0) (pos 0))) (denies WrongType)
    ∷ line 1 (env 1 1) (Arrays (SetArrayRegion Int (local 1 2) (pos 0) [])) (denies WrongType)
    ∷ line 1 (env 1 1) (Arrays (GetArrayRegion Long (local 1 4) (pos 0) (pos 0))) (denies WrongType)
    ∷ line 1 (env 1 1) (Arrays (GetObjectArrayElement (local 1 2) (pos 0))) (denies WrongType)
    ∷ line 1 (env 1 1) (Arrays (SetObjectArrayElement (local 1 1) (pos 0) Null)) (denies WrongType)
    ∷ line 1 (env 1 1) (Arrays (NewObjectArray (pos 1) (local 1 1) Null)) (denies WrongType)
    ∷ line 1 (env 1 1) (Arrays (GetArrayRegion Long (local 1 2) (pos 0) (pos 1))) (gives (Listed (pos 0 ∷ [])))
    ∷ line 1 (env 1 1) (Arrays (GetArrayLength (local 1 4))) (gives (Amount (pos 1)))
    ∷ line 1 (env 1 1) (Arrays (GetObjectArrayElement (local 1 4) (pos 0))) (hands_out (local 1 5) 15)
    ∷ line 1 (env 1 1) (Refs (IsSameObject (local 1 5) (local 1 1))) (gives (Truth true))
    ∷ []
