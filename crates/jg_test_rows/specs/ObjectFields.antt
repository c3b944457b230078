-- Rows on fields of objects.
use Rattle.std.specs.Prelude.{pos, negsuc, true, List, [], ◌∷◌, codes}
use Rattle.jg_words.specs.declared.object.Primitive.TheVariants.{Boolean, Byte, Char, Short, Int, Long}
use Rattle.jg_words.specs.declared.reference.Ref.TheVariants.{Null}
use Rattle.jg_words.specs.declared.value.Value.TheVariants.{Ok as Done, Number as Amount, Truth, Null as NullAnswer, Field, Environment}
use Rattle.jg_words.specs.declared.value.Thrown.TheVariants.{NoSuchField}
use Rattle.jg_words.specs.declared.rule.Rule.TheVariants.{BadArgument, BadField, ForeignLocal, NullReference, WrongType}
use Rattle.jg_words.specs.declared.call.Call.TheVariants.{Vm, Refs, Objects, Strings}
use Rattle.jg_words.specs.declared.call.vm.VmCall.TheVariants.{AttachCurrentThread}
use Rattle.jg_words.specs.declared.call.refs.RefsCall.TheVariants.{IsSameObject}
use Rattle.jg_words.specs.declared.call.objects.ObjectsCall.TheVariants.{FindClass, AllocObject, GetFieldID, GetField, GetObjectField, SetField, SetObjectField}
use Rattle.jg_words.specs.declared.call.strings.StringsCall.TheVariants.{NewString}
use Rattle.jg_test_rows.specs.Lines.{Line, line, bare, env, environment, local, field, gives, hands_out, throws, denies}

-- a field holds what was written last, of its own type alone
abbrev pub fields : List Line
fields =
    line 1 bare (Vm AttachCurrentThread) (gives (Environment (environment 1 1)))
    ∷ line 1 (env 1 1) (Objects (FindClass (codes "app/Main"))) (hands_out (local 1 1) 15)
    ∷ line 1 (env 1 1) (Objects (AllocObject (local 1 1))) (hands_out (local 1 2) 18)
    ∷ line 1 (env 1 1) (Objects (GetFieldID (local 1 1) (codes "count") (codes "I"))) (gives (Field (field 15 1)))
    ∷ line 1 (env 1 1) (Objects (SetField Int (local 1 2) (field 15 1) (pos 2147483647))) (gives Done)
    ∷ line 1 (env 1 1) (Objects (SetField Int (local 1 2) (field 15 1) (pos 2147483648))) (denies BadArgument)
    ∷ line 1 (env 1 1) (Objects (GetField Int (local 1 2) (field 15 1))) (gives (Amount (pos 2147483647)))
    ∷ line 1 (env 1 1) (Objects (GetField Long (local 1 2) (field 15 1))) (denies BadField)
    ∷ line 1 (env 1 1) (Objects (GetFieldID (local 1 1) (codes "count") (codes "J"))) (throws NoSuchField 19)
    ∷ []

-- a field of a class holds null at first, and then what was written
abbrev pub fields_of_objects : List Line
fields_of_objects =
    line 1 bare (Vm AttachCurrentThread) (gives (Environment (environment 1 1)))
    ∷ line 1 (env 1 1) (Objects (FindClass (codes "app/Main"))) (hands_out (local 1 1) 15)
    ∷ line 1 (env 1 1) (Objects (AllocObject (local 1 1))) (hands_out (local 1 2) 18)
    ∷ line 1 (env 1 1) (Objects (AllocObject (local 1 1))) (hands_out (local 1 3) 19)
    ∷ line 1 (env 1 1) (Objects (GetFieldID (local 1 1) (codes "next") (codes "Lapp/Main;")))
    (gives (Field (field 15 2)))
    ∷ line 1 (env 1 1) (Objects (GetObjectField (local 1 2) (field 15 2))) (gives NullAnswer)
    ∷ line 1 (env 1 1) (Objects (SetObjectField (local 1 2) (field 15 2) (local 1 3))) (gives Done)
    ∷ line 1 (env 1 1) (Objects (GetObjectField (local 1 2) (field 15 2))) (hands_out (local 1 4) 19)
    ∷ line 1 (env 1 1) (Refs (IsSameObject (local 1 3) (local 1 4))) (gives (Truth true))
    ∷ line 1 (env 1 1) (Objects (GetObjectField (local 1 3) (field 15 2))) (gives NullAnswer)
    ∷ line 1 (env 1 1) (Objects (SetObjectField (local 1 2) (field 15 2) Null)) (gives Done)
    ∷ line 1 (env 1 1) (Objects (GetObjectField (local 1 2) (field 15 2))) (gives NullAnswer)
    ∷ line 1 (env 1 1) (Objects (SetObjectField (local 1 2) (field 15 2) (local 9 9))) (denies ForeignLocal)
    ∷ line 1 (env 1 1) (Objects (SetObjectField Null (field 15 2) (local 1 3))) (denies NullReference)
    ∷ []

-- a field of another class, of another type, or of no class is refused
abbrev pub fields_of_others : List Line
fields_of_others =
    line 1 bare (Vm AttachCurrentThread) (gives (Environment (environment 1 1)))
    ∷ line 1 (env 1 1) (Objects (FindClass (codes "app/Main"))) (hands_out (local 1 1) 15)
    ∷ line 1 (env 1 1) (Objects (AllocObject (local 1 1))) (hands_out (local 1 2) 18)
    ∷ line 1 (env 1 1) (Strings (NewString (pos 65 ∷ []))) (hands_out (local 1 3) 19)
    ∷ line 1 (env 1 1) (Objects (GetField Int (local 1 1) (field 15 1))) (denies BadField)
    ∷ line 1 (env 1 1) (Objects (GetField Int (local 1 3) (field 15 1))) (denies BadField)
    ∷ line 1 (env 1 1) (Objects (GetField Int (local 1 2) (field 15 2))) (denies BadField)
    ∷ line 1 (env 1 1) (Objects (GetObjectField (local 1 2) (field 15 1))) (denies BadField)
    ∷ line 1 (env 1 1) (Objects (SetObjectField (local 1 2) (field 15 1) Null)) (denies BadField)
    ∷ line 1 (env 1 1) (Objects (SetField Boolean (local 1 2) (field 15 1) (pos 7))) (denies BadField)
    ∷ line 1 (env 1 1) (Objects (GetField Int (local 1 2) (field 15 0))) (denies BadField)
    ∷ line 1 (env 1 1) (Objects (GetField Int (local 1 2) (field 15 3))) (denies BadField)
    ∷ line 1 (env 1 1) (Objects (GetField Int (local 1 2) (field 2 1))) (denies BadField)
    ∷ line 1 (env 1 1) (Objects (GetField Int (local 1 2) (field 4294967295 1))) (denies BadField)
    ∷ line 1 (env 1 1) (Objects (GetFieldID (local 1 2) (codes "count") (codes "I"))) (denies WrongType)
    ∷ line 1 (env 1 1) (Objects (GetFieldID (local 1 1) (codes "count") (codes "I"))) (gives (Field (field 15 1)))
    ∷ line 1 (env 1 1) (Objects (GetField Int (local 1 2) (field 15 1))) (gives (Amount (pos 0)))
    ∷ []

-- a field of each primitive type, at its bounds and one past them
abbrev pub fields_of_each_type : List Line
fields_of_each_type =
    line 1 bare (Vm AttachCurrentThread) (gives (Environment (environment 1 1)))
    ∷ line 1 (env 1 1) (Objects (FindClass (codes "t/All"))) (hands_out (local 1 1) 15)
    ∷ line 1 (env 1 1) (Objects (AllocObject (local 1 1))) (hands_out (local 1 2) 16)
    ∷ line 1 (env 1 1) (Objects (SetField Boolean (local 1 2) (field 15 1) (pos 1))) (gives Done)
    ∷ line 1 (env 1 1) (Objects (SetField Boolean (local 1 2) (field 15 1) (pos 2))) (denies BadArgument)
    ∷ line 1 (env 1 1) (Objects (SetField Boolean (local 1 2) (field 15 1) (negsuc 0))) (denies BadArgument)
    ∷ line 1 (env 1 1) (Objects (GetField Boolean (local 1 2) (field 15 1))) (gives (Amount (pos 1)))
    ∷ line 1 (env 1 1) (Objects (SetField Byte (local 1 2) (field 15 2) (pos 127))) (gives Done)
    ∷ line 1 (env 1 1) (Objects (SetField Byte (local 1 2) (field 15 2) (pos 128))) (denies BadArgument)
    ∷ line 1 (env 1 1) (Objects (SetField Byte (local 1 2) (field 15 2) (negsuc 128))) (denies BadArgument)
    ∷ line 1 (env 1 1) (Objects (SetField Byte (local 1 2) (field 15 2) (negsuc 127))) (gives Done)
    ∷ line 1 (env 1 1) (Objects (GetField Byte (local 1 2) (field 15 2))) (gives (Amount (negsuc 127)))
    ∷ line 1 (env 1 1) (Objects (SetField Char (local 1 2) (field 15 3) (pos 65535))) (gives Done)
    ∷ line 1 (env 1 1) (Objects (SetField Char (local 1 2) (field 15 3) (pos 65536))) (denies BadArgument)
    ∷ line 1 (env 1 1) (Objects (SetField Char (local 1 2) (field 15 3) (negsuc 0))) (denies BadArgument)
    ∷ line 1 (env 1 1) (Objects (GetField Char (local 1 2) (field 15 3))) (gives (Amount (pos 65535)))
    ∷ line 1 (env 1 1) (Objects (SetField Short (local 1 2) (field 15 4) (pos 32767))) (gives Done)
    ∷ line 1 (env 1 1) (Objects (SetField Short (local 1 2) (field 15 4) (pos 32768))) (denies BadArgument)
    ∷ line 1 (env 1 1) (Objects (SetField Short (local 1 2) (field 15 4) (negsuc 32768))) (denies BadArgument)
    ∷ line 1 (env 1 1) (Objects (SetField Short (local 1 2) (field 15 4) (negsuc 32767))) (gives Done)
    ∷ line 1 (env 1 1) (Objects (GetField Short (local 1 2) (field 15 4))) (gives (Amount (negsuc 32767)))
    ∷ line 1 (env 1 1) (Objects (SetField Int (local 1 2) (field 15 5) (pos 2147483647))) (gives Done)
    ∷ line 1 (env 1 1) (Objects (SetField Int (local 1 2) (field 15 5) (negsuc 2147483648))) (denies BadArgument)
    ∷ line 1 (env 1 1) (Objects (SetField Int (local 1 2) (field 15 5) (negsuc 2147483647))) (gives Done)
    ∷ line 1 (env 1 1) (Objects (GetField Int (local 1 2) (field 15 5))) (gives (Amount (negsuc 2147483647)))
    ∷ line 1 (env 1 1) (Objects (SetField Long (local 1 2) (field 15 6) (pos 9223372036854775807))) (gives Done)
    ∷ line 1 (env 1 1) (Objects (GetField Long (local 1 2) (field 15 6))) (gives (Amount (pos 9223372036854775807)))
    ∷ line 1 (env 1 1) (Objects (SetField Long (local 1 2) (field 15 6) (negsuc 9223372036854775807))) (gives Done)
    ∷ line 1 (env 1 1) (Objects (GetField Long (local 1 2) (field 15 6))) (gives (Amount (negsuc 9223372036854775807)))
    ∷ line 1 (env 1 1) (Objects (GetField Boolean (local 1 2) (field 15 1))) (gives (Amount (pos 1)))
    ∷ []
