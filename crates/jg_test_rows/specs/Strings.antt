-- Rows on strings.
use Rattle.std.specs.Prelude.{pos, negsuc, List, [], ◌∷◌}
use Rattle.jg_words.specs.declared.reference.Ref.TheVariants.{Null}
use Rattle.jg_words.specs.declared.value.Value.TheVariants.{Ok as Done, Number as Amount, Environment, List as Listed}
use Rattle.jg_words.specs.declared.rule.Rule.TheVariants.{DeadReference, NullReference, BadArgument}
use Rattle.jg_words.specs.declared.call.Call.TheVariants.{Vm, Refs, Strings, Exceptions}
use Rattle.jg_words.specs.declared.call.vm.VmCall.TheVariants.{AttachCurrentThread, DetachCurrentThread}
use Rattle.jg_words.specs.declared.call.refs.RefsCall.TheVariants.{DeleteLocalRef}
use Rattle.jg_words.specs.declared.call.strings.StringsCall.TheVariants.{NewString, GetStringLength, NewStringUTF, GetStringUTFLength, GetStringRegion}
use Rattle.jg_words.specs.declared.value.Thrown.TheVariants.{StringIndexOutOfBounds}
use Rattle.jg_words.specs.declared.call.exceptions.ExceptionsCall.TheVariants.{ExceptionClear}
use Rattle.jg_test_rows.specs.Lines.{Line, line, bare, env, environment, local, gives, hands_out, denies, throws}

-- a string is made, measured and let go
abbrev pub first_path : List Line
first_path =
    line 1 bare (Vm AttachCurrentThread) (gives (Environment (environment 1 1)))
    ∷ line 1 (env 1 1) (Strings (NewString (pos 72 ∷ pos 105 ∷ []))) (hands_out (local 1 1) 15)
    ∷ line 1 (env 1 1) (Strings (GetStringLength (local 1 1))) (gives (Amount (pos 2)))
    ∷ line 1 (env 1 1) (Refs (DeleteLocalRef (local 1 1))) (gives Done)
    ∷ line 1 (env 1 1) (Strings (GetStringLength (local 1 1))) (denies DeadReference)
    ∷ line 1 bare (Vm DetachCurrentThread) (gives Done)
    ∷ []

-- units are from 0 to 65,535, a surrogate by itself among them; a denied call uses no number
abbrev pub units_of_strings : List Line
units_of_strings =
    line 1 bare (Vm AttachCurrentThread) (gives (Environment (environment 1 1)))
    ∷ line 1 (env 1 1) (Strings (NewString (pos 65536 ∷ []))) (denies BadArgument)
    ∷ line 1 (env 1 1) (Strings (NewString (negsuc 0 ∷ []))) (denies BadArgument)
    ∷ line 1 (env 1 1) (Strings (NewString (pos 65 ∷ pos 65536 ∷ pos 66 ∷ []))) (denies BadArgument)
    ∷ line 1 (env 1 1) (Strings (NewString (pos 0 ∷ pos 65535 ∷ pos 55296 ∷ []))) (hands_out (local 1 1) 15)
    ∷ line 1 (env 1 1) (Strings (GetStringLength (local 1 1))) (gives (Amount (pos 3)))
    ∷ []

-- the length of null, and of strings that are told apart by their references
abbrev pub lengths_of_strings : List Line
lengths_of_strings =
    line 1 bare (Vm AttachCurrentThread) (gives (Environment (environment 1 1)))
    ∷ line 2 bare (Vm AttachCurrentThread) (gives (Environment (environment 2 1)))
    ∷ line 1 (env 1 1) (Strings (GetStringLength Null)) (denies NullReference)
    ∷ line 1 (env 1 1) (Strings (NewString (pos 65 ∷ []))) (hands_out (local 1 1) 15)
    ∷ line 2 (env 2 1) (Strings (NewString (pos 66 ∷ pos 67 ∷ []))) (hands_out (local 2 1) 16)
    ∷ line 1 (env 1 1) (Strings (NewString [])) (hands_out (local 1 2) 17)
    ∷ line 1 (env 1 1) (Strings (GetStringLength (local 1 1))) (gives (Amount (pos 1)))
    ∷ line 2 (env 2 1) (Strings (GetStringLength (local 2 1))) (gives (Amount (pos 2)))
    ∷ line 1 (env 1 1) (Strings (GetStringLength (local 1 2))) (gives (Amount (pos 0)))
    ∷ []

-- strings from modified UTF-8
abbrev pub modified_utf8 : List Line
modified_utf8 =
    line 1 bare (Vm AttachCurrentThread) (gives (Environment (environment 1 1)))
    ∷ line 1 (env 1 1) (Strings (NewStringUTF (pos 192 ∷ pos 128 ∷ []))) (hands_out (local 1 1) 15)
    ∷ line 1 (env 1 1) (Strings (GetStringLength (local 1 1))) (gives (Amount (pos 1)))
    ∷ line 1 (env 1 1) (Strings (GetStringUTFLength (local 1 1))) (gives (Amount (pos 2)))
    ∷ line 1 (env 1 1) (Strings (NewStringUTF (pos 0 ∷ []))) (denies BadArgument)
    ∷ line 1 (env 1 1) (Strings (NewStringUTF (pos 192 ∷ []))) (denies BadArgument)
    ∷ line 1 (env 1 1) (Strings (NewStringUTF (pos 193 ∷ pos 129 ∷ []))) (denies BadArgument)
    ∷ line 1 (env 1 1) (Strings (NewStringUTF (pos 237 ∷ pos 160 ∷ pos 128 ∷ []))) (hands_out (local 1 2) 16)
    ∷ line 1 (env 1 1) (Strings (GetStringRegion (local 1 2) (pos 0) (pos 1))) (gives (Listed (pos 55296 ∷ [])))
    ∷ line 1 (env 1 1) (Strings (GetStringRegion (local 1 2) (pos 0) (pos 2))) (throws StringIndexOutOfBounds 17)
    ∷ []

-- regions of a string at their edges
abbrev pub regions_of_strings : List Line
regions_of_strings =
    line 1 bare (Vm AttachCurrentThread) (gives (Environment (environment 1 1)))
    ∷ line 1 (env 1 1) (Strings (NewString (pos 72 ∷ pos 0 ∷ pos 65535 ∷ []))) (hands_out (local 1 1) 15)
    ∷ line 1 (env 1 1) (Strings (GetStringRegion (local 1 1) (pos 0) (pos 0))) (gives (Listed []))
    ∷ line 1 (env 1 1) (Exceptions ExceptionClear) (gives Done)
    ∷ line 1 (env 1 1) (Strings (GetStringRegion (local 1 1) (pos 0) (pos 3)))
    (gives (Listed (pos 72 ∷ pos 0 ∷ pos 65535 ∷ [])))
    ∷ line 1 (env 1 1) (Exceptions ExceptionClear) (gives Done)
    ∷ line 1 (env 1 1) (Strings (GetStringRegion (local 1 1) (pos 3) (pos 0))) (gives (Listed []))
    ∷ line 1 (env 1 1) (Exceptions ExceptionClear) (gives Done)
    ∷ line 1 (env 1 1) (Strings (GetStringRegion (local 1 1) (pos 2) (pos 1))) (gives (Listed (pos 65535 ∷ [])))
    ∷ line 1 (env 1 1) (Exceptions ExceptionClear) (gives Done)
    ∷ line 1 (env 1 1) (Strings (GetStringRegion (local 1 1) (pos 1) (pos 2))) (gives (Listed (pos 0 ∷ pos 65535 ∷ [])))
    ∷ line 1 (env 1 1) (Exceptions ExceptionClear) (gives Done)
    ∷ line 1 (env 1 1) (Strings (GetStringRegion (local 1 1) (pos 2) (pos 2))) (throws StringIndexOutOfBounds 16)
    ∷ line 1 (env 1 1) (Exceptions ExceptionClear) (gives Done)
    ∷ line 1 (env 1 1) (Strings (GetStringRegion (local 1 1) (pos 4) (pos 0))) (throws StringIndexOutOfBounds 17)
    ∷ line 1 (env 1 1) (Exceptions ExceptionClear) (gives Done)
    ∷ line 1 (env 1 1) (Strings (GetStringRegion (local 1 1) (pos 3) (pos 1))) (throws StringIndexOutOfBounds 18)
    ∷ line 1 (env 1 1) (Exceptions ExceptionClear) (gives Done)
    ∷ line 1 (env 1 1) (Strings (GetStringRegion (local 1 1) (negsuc 0) (pos 1))) (throws StringIndexOutOfBounds 19)
    ∷ line 1 (env 1 1) (Exceptions ExceptionClear) (gives Done)
    ∷ line 1 (env 1 1) (Strings (GetStringRegion (local 1 1) (pos 0) (negsuc 0))) (throws StringIndexOutOfBounds 20)
    ∷ line 1 (env 1 1) (Exceptions ExceptionClear) (gives Done)
    ∷ line 1 (env 1 1) (Strings (GetStringRegion (local 1 1) (negsuc 0) (negsuc 0))) (throws StringIndexOutOfBounds 21)
    ∷ line 1 (env 1 1) (Exceptions ExceptionClear) (gives Done)
    ∷ line 1 (env 1 1) (Strings (GetStringRegion (local 1 1) (pos 0) (pos 1000))) (throws StringIndexOutOfBounds 22)
    ∷ line 1 (env 1 1) (Exceptions ExceptionClear) (gives Done)
    ∷ line 1 (env 1 1) (Strings (GetStringRegion (local 1 1) (pos 0) (pos 1001))) (denies BadArgument)
    ∷ line 1 (env 1 1) (Exceptions ExceptionClear) (gives Done)
    ∷ line 1 (env 1 1) (Strings (GetStringRegion (local 1 1) (pos 2147483647) (pos 0)))
    (throws StringIndexOutOfBounds 23)
    ∷ line 1 (env 1 1) (Exceptions ExceptionClear) (gives Done)
    ∷ line 1 (env 1 1) (Strings (GetStringRegion (local 1 1) (pos 2147483647) (pos 1)))
    (throws StringIndexOutOfBounds 24)
    ∷ line 1 (env 1 1) (Exceptions ExceptionClear) (gives Done)
    ∷ line 1 (env 1 1) (Strings (GetStringRegion (local 1 1) (pos 2147483647) (pos 1000)))
    (throws StringIndexOutOfBounds 25)
    ∷ line 1 (env 1 1) (Exceptions ExceptionClear) (gives Done)
    ∷ line 1 (env 1 1) (Strings (GetStringRegion (local 1 1) (pos 2147483647) (pos 2147483647))) (denies BadArgument)
    ∷ line 1 (env 1 1) (Exceptions ExceptionClear) (gives Done)
    ∷ line 1 (env 1 1) (Strings (GetStringRegion (local 1 1) (pos 0) (pos 2147483647))) (denies BadArgument)
    ∷ line 1 (env 1 1) (Exceptions ExceptionClear) (gives Done)
    ∷ line 1 (env 1 1) (Strings (GetStringRegion (local 1 1) (negsuc 2147483647) (negsuc 2147483647)))
    (throws StringIndexOutOfBounds 26)
    ∷ line 1 (env 1 1) (Exceptions ExceptionClear) (gives Done)
    ∷ []
