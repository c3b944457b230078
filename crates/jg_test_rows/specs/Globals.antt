-- Rows on global and weak global references.
use Rattle.std.specs.Prelude.{pos, true, codes, List, [], ◌∷◌}
use Rattle.jg_words.specs.declared.reference.Ref.TheVariants.{Null}
use Rattle.jg_words.specs.declared.value.Value.TheVariants.{Ok as Done, Number as Amount, Truth, Null as NullAnswer, Environment}
use Rattle.jg_words.specs.declared.value.Thrown.TheVariants.{NoClassDefFound}
use Rattle.jg_words.specs.declared.rule.Rule.TheVariants.{Pending, ForeignLocal, DeadReference, WrongRefKind}
use Rattle.jg_words.specs.declared.call.Call.TheVariants.{Vm, Refs, Objects, Strings, Monitors}
use Rattle.jg_words.specs.declared.call.vm.VmCall.TheVariants.{AttachCurrentThread, DetachCurrentThread, Collect}
use Rattle.jg_words.specs.declared.call.refs.RefsCall.TheVariants.{NewLocalRef, NewGlobalRef, NewWeakGlobalRef, DeleteLocalRef, DeleteGlobalRef, DeleteWeakGlobalRef, IsSameObject, GetObjectRefType}
use Rattle.jg_words.specs.declared.call.objects.ObjectsCall.TheVariants.{FindClass}
use Rattle.jg_words.specs.declared.call.strings.StringsCall.TheVariants.{NewString, GetStringLength}
use Rattle.jg_words.specs.declared.call.monitors.MonitorsCall.TheVariants.{MonitorEnter, MonitorExit}
use Rattle.jg_test_rows.specs.Lines.{Line, line, bare, env, environment, local, global, weak, gives, hands_out, throws, denies}

-- a local reference is its own thread's alone, a global one every thread's
abbrev pub local_against_global : List Line
local_against_global =
    line 1 bare (Vm AttachCurrentThread) (gives (Environment (environment 1 1)))
    ∷ line 2 bare (Vm AttachCurrentThread) (gives (Environment (environment 2 1)))
    ∷ line 1 (env 1 1) (Strings (NewString (pos 104 ∷ pos 105 ∷ []))) (hands_out (local 1 1) 15)
    ∷ line 2 (env 2 1) (Strings (GetStringLength (local 1 1))) (denies ForeignLocal)
    ∷ line 1 (env 1 1) (Refs (NewGlobalRef (local 1 1))) (hands_out (global 1 2) 15)
    ∷ line 2 (env 2 1) (Strings (GetStringLength (global 1 2))) (gives (Amount (pos 2)))
    ∷ line 2 (env 2 1) (Refs (NewLocalRef (global 1 2))) (hands_out (local 2 1) 15)
    ∷ line 1 (env 1 1) (Refs (IsSameObject (local 1 1) (global 1 2))) (gives (Truth true))
    ∷ line 2 (env 2 1) (Refs (GetObjectRefType (local 1 1))) (gives (Amount (pos 0)))
    ∷ line 2 (env 2 1) (Refs (GetObjectRefType (global 1 2))) (gives (Amount (pos 2)))
    ∷ line 2 (env 2 1) (Refs (DeleteLocalRef (global 1 2))) (denies WrongRefKind)
    ∷ []

-- a global reference is live until it is deleted, by any thread and by its own function alone
abbrev pub global_outlives_its_thread : List Line
global_outlives_its_thread =
    line 1 bare (Vm AttachCurrentThread) (gives (Environment (environment 1 1)))
    ∷ line 1 (env 1 1) (Strings (NewString (pos 65 ∷ []))) (hands_out (local 1 1) 15)
    ∷ line 1 (env 1 1) (Refs (NewGlobalRef (local 1 1))) (hands_out (global 1 2) 15)
    ∷ line 1 (env 1 1) (Refs (NewGlobalRef Null)) (gives NullAnswer)
    ∷ line 1 (env 1 1) (Refs (NewWeakGlobalRef Null)) (gives NullAnswer)
    ∷ line 1 (env 1 1) (Refs (DeleteGlobalRef Null)) (gives Done)
    ∷ line 1 (env 1 1) (Refs (DeleteWeakGlobalRef Null)) (gives Done)
    ∷ line 1 (env 1 1) (Refs (DeleteGlobalRef (local 1 1))) (denies WrongRefKind)
    ∷ line 1 (env 1 1) (Refs (DeleteWeakGlobalRef (global 1 2))) (denies WrongRefKind)
    ∷ line 1 bare (Vm DetachCurrentThread) (gives Done)
    ∷ line 2 bare (Vm AttachCurrentThread) (gives (Environment (environment 2 1)))
    ∷ line 2 (env 2 1) (Strings (GetStringLength (global 1 2))) (gives (Amount (pos 1)))
    ∷ line 2 (env 2 1) (Refs (DeleteGlobalRef (global 1 2))) (gives Done)
    ∷ line 2 (env 2 1) (Strings (GetStringLength (global 1 2))) (denies DeadReference)
    ∷ line 2 (env 2 1) (Refs (DeleteGlobalRef (global 1 2))) (denies DeadReference)
    ∷ line 2 (env 2 1) (Refs (GetObjectRefType (global 1 2))) (gives (Amount (pos 0)))
    ∷ []

-- with an exception pending references may be deleted and monitors exited, but none made or entered
abbrev pub lets_go_with_an_exception_pending : List Line
lets_go_with_an_exception_pending =
    line 1 bare (Vm AttachCurrentThread) (gives (Environment (environment 1 1)))
    ∷ line 1 (env 1 1) (Strings (NewString [])) (hands_out (local 1 1) 15)
    ∷ line 1 (env 1 1) (Refs (NewGlobalRef (local 1 1))) (hands_out (global 1 2) 15)
    ∷ line 1 (env 1 1) (Refs (NewWeakGlobalRef (local 1 1))) (hands_out (weak 1 3) 15)
    ∷ line 1 (env 1 1) (Monitors (MonitorEnter (local 1 1))) (gives Done)
    ∷ line 1 (env 1 1) (Objects (FindClass (codes "no/Such"))) (throws NoClassDefFound 16)
    ∷ line 1 (env 1 1) (Refs (NewGlobalRef (local 1 1))) (denies Pending)
    ∷ line 1 (env 1 1) (Refs (NewWeakGlobalRef (local 1 1))) (denies Pending)
    ∷ line 1 (env 1 1) (Monitors (MonitorEnter (local 1 1))) (denies Pending)
    ∷ line 1 (env 1 1) (Monitors (MonitorExit (local 1 1))) (gives Done)
    ∷ line 1 (env 1 1) (Refs (DeleteGlobalRef (global 1 2))) (gives Done)
    ∷ line 1 (env 1 1) (Refs (DeleteWeakGlobalRef (weak 1 3))) (gives Done)
    ∷ line 0 bare (Vm Collect) (gives (Amount (pos 0)))
    ∷ []
