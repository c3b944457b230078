-- Rows on references: what they name, and who may use them.
use Rattle.std.specs.Prelude.{pos, true, false, List, [], ◌∷◌}
use Rattle.jg_words.specs.declared.reference.Ref.TheVariants.{Null}
use Rattle.jg_words.specs.declared.value.Value.TheVariants.{Ok as Done, Number as Amount, Truth, Null as NullAnswer, Environment}
use Rattle.jg_words.specs.declared.rule.Rule.TheVariants.{ForeignLocal, DeadReference}
use Rattle.jg_words.specs.declared.call.Call.TheVariants.{Vm, Refs, Strings}
use Rattle.jg_words.specs.declared.call.vm.VmCall.TheVariants.{AttachCurrentThread}
use Rattle.jg_words.specs.declared.call.refs.RefsCall.TheVariants.{NewLocalRef, DeleteLocalRef, IsSameObject, GetObjectRefType}
use Rattle.jg_words.specs.declared.call.strings.StringsCall.TheVariants.{NewString, GetStringLength}
use Rattle.jg_test_rows.specs.Lines.{Line, line, bare, env, environment, local, global, weak, gives, hands_out, denies}

-- another thread's local is named before a dead reference, wherever the two stand
abbrev pub foreign_before_dead : List Line
foreign_before_dead =
    line 1 bare (Vm AttachCurrentThread) (gives (Environment (environment 1 1)))
    ∷ line 2 bare (Vm AttachCurrentThread) (gives (Environment (environment 2 1)))
    ∷ line 1 (env 1 1) (Strings (NewString [])) (hands_out (local 1 1) 15)
    ∷ line 2 (env 2 1) (Refs (IsSameObject (local 2 9) (local 1 1))) (denies ForeignLocal)
    ∷ line 2 (env 2 1) (Refs (IsSameObject (local 1 1) (local 2 9))) (denies ForeignLocal)
    ∷ line 2 (env 2 1) (Refs (IsSameObject Null (local 1 9))) (denies ForeignLocal)
    ∷ line 2 (env 2 1) (Refs (IsSameObject (local 2 9) Null)) (denies DeadReference)
    ∷ line 2 (env 2 1) (Refs (NewLocalRef (local 1 1))) (denies ForeignLocal)
    ∷ line 2 (env 2 1) (Refs (DeleteLocalRef (local 1 1))) (denies ForeignLocal)
    ∷ line 1 (env 1 1) (Strings (GetStringLength (local 1 1))) (gives (Amount (pos 0)))
    ∷ []

-- two references are the same where they name one object, or where both are null
abbrev pub same_object : List Line
same_object =
    line 1 bare (Vm AttachCurrentThread) (gives (Environment (environment 1 1)))
    ∷ line 1 (env 1 1) (Refs (IsSameObject Null Null)) (gives (Truth true))
    ∷ line 1 (env 1 1) (Strings (NewString (pos 65 ∷ []))) (hands_out (local 1 1) 15)
    ∷ line 1 (env 1 1) (Strings (NewString (pos 65 ∷ []))) (hands_out (local 1 2) 16)
    ∷ line 1 (env 1 1) (Refs (NewLocalRef (local 1 1))) (hands_out (local 1 3) 15)
    ∷ line 1 (env 1 1) (Refs (IsSameObject (local 1 1) (local 1 3))) (gives (Truth true))
    ∷ line 1 (env 1 1) (Refs (IsSameObject (local 1 1) (local 1 2))) (gives (Truth false))
    ∷ line 1 (env 1 1) (Refs (IsSameObject (local 1 1) Null)) (gives (Truth false))
    ∷ line 1 (env 1 1) (Refs (IsSameObject Null (local 1 2))) (gives (Truth false))
    ∷ []

-- GetObjectRefType takes any reference: 0 for null, for a dead one and for another thread's, 1 for a local one
abbrev pub kinds_of_references : List Line
kinds_of_references =
    line 1 bare (Vm AttachCurrentThread) (gives (Environment (environment 1 1)))
    ∷ line 2 bare (Vm AttachCurrentThread) (gives (Environment (environment 2 1)))
    ∷ line 2 (env 2 1) (Strings (NewString [])) (hands_out (local 2 1) 15)
    ∷ line 1 (env 1 1) (Refs (GetObjectRefType Null)) (gives (Amount (pos 0)))
    ∷ line 1 (env 1 1) (Refs (GetObjectRefType (local 1 1))) (gives (Amount (pos 0)))
    ∷ line 1 (env 1 1) (Strings (NewString [])) (hands_out (local 1 1) 16)
    ∷ line 1 (env 1 1) (Refs (GetObjectRefType (local 1 1))) (gives (Amount (pos 1)))
    ∷ line 2 (env 2 1) (Refs (GetObjectRefType (local 1 1))) (gives (Amount (pos 0)))
    ∷ line 1 (env 1 1) (Refs (DeleteLocalRef (local 1 1))) (gives Done)
    ∷ line 1 (env 1 1) (Refs (GetObjectRefType (local 1 1))) (gives (Amount (pos 0)))
    ∷ []

-- deleting null does nothing; what is deleted is dead; the object lives on through its other reference
abbrev pub deleted_twice : List Line
deleted_twice =
    line 1 bare (Vm AttachCurrentThread) (gives (Environment (environment 1 1)))
    ∷ line 1 (env 1 1) (Refs (DeleteLocalRef Null)) (gives Done)
    ∷ line 1 (env 1 1) (Refs (NewLocalRef Null)) (gives NullAnswer)
    ∷ line 1 (env 1 1) (Strings (NewString (pos 65 ∷ pos 66 ∷ []))) (hands_out (local 1 1) 15)
    ∷ line 1 (env 1 1) (Refs (NewLocalRef (local 1 1))) (hands_out (local 1 2) 15)
    ∷ line 1 (env 1 1) (Refs (DeleteLocalRef (local 1 1))) (gives Done)
    ∷ line 1 (env 1 1) (Refs (DeleteLocalRef (local 1 1))) (denies DeadReference)
    ∷ line 1 (env 1 1) (Refs (NewLocalRef (local 1 1))) (denies DeadReference)
    ∷ line 1 (env 1 1) (Strings (GetStringLength (local 1 2))) (gives (Amount (pos 2)))
    ∷ line 1 (env 1 1) (Refs (NewLocalRef (local 1 2))) (hands_out (local 1 3) 15)
    ∷ []

-- a reference that was never made is dead before it is of the wrong kind
abbrev pub never_made : List Line
never_made =
    line 1 bare (Vm AttachCurrentThread) (gives (Environment (environment 1 1)))
    ∷ line 1 (env 1 1) (Strings (GetStringLength (global 1 1))) (denies DeadReference)
    ∷ line 1 (env 1 1) (Refs (NewLocalRef (weak 1 1))) (denies DeadReference)
    ∷ line 1 (env 1 1) (Refs (DeleteLocalRef (global 1 1))) (denies DeadReference)
    ∷ line 1 (env 1 1) (Refs (DeleteLocalRef (weak 2 1))) (denies DeadReference)
    ∷ line 1 (env 1 1) (Refs (IsSameObject Null (global 2 1))) (denies DeadReference)
    ∷ line 1 (env 1 1) (Refs (GetObjectRefType (global 1 1))) (gives (Amount (pos 0)))
    ∷ line 1 (env 1 1) (Refs (GetObjectRefType (weak 1 1))) (gives (Amount (pos 0)))
    ∷ line 1 (env 1 1) (Strings (NewString [])) (hands_out (local 1 1) 15)
    ∷ line 1 (env 1 1) (Strings (GetStringLength (global 1 1))) (denies DeadReference)
    ∷ []
