-- Rows on native access (JEP 472).
use Rattle.std.specs.Prelude.{List, [], ◌∷◌, codes}
use Rattle.jg_words.specs.declared.value.Value.TheVariants.{Ok as Done, Environment}
use Rattle.jg_words.specs.declared.value.Thrown.TheVariants.{NoSuchMethod}
use Rattle.jg_words.specs.declared.rule.Rule.TheVariants.{BadArgument, NoNativeAccess, NotLinked}
use Rattle.jg_words.specs.declared.call.Call.TheVariants.{Vm, Exceptions, Objects}
use Rattle.jg_words.specs.declared.call.vm.VmCall.TheVariants.{AttachCurrentThread, NativeEnter, LoadLibrary, RegisterNatives}
use Rattle.jg_words.specs.declared.call.exceptions.ExceptionsCall.TheVariants.{ExceptionClear}
use Rattle.jg_words.specs.declared.call.objects.ObjectsCall.TheVariants.{FindClass}
use Rattle.jg_test_rows.specs.Lines.{Line, line, bare, env, environment, local, gives, warns, hands_out, throws, denies}

-- native code of a module that is not enabled is refused
abbrev pub access_denied : List Line
access_denied =
    line 1 bare (Vm AttachCurrentThread) (gives (Environment (environment 1 1)))
    ∷ line 1 (env 1 1) (Objects (FindClass (codes "lib/Tool"))) (hands_out (local 1 1) 16)
    ∷ line 1 (env 1 1) (Vm (RegisterNatives (local 1 1) (codes "go") (codes "()V"))) (denies NoNativeAccess)
    ∷ line 1 (env 1 1) (Vm (LoadLibrary (codes "lib/Tool") (codes "tool"))) (denies NoNativeAccess)
    ∷ line 1 (env 1 1) (Vm (LoadLibrary (codes "app/Main") (codes "app"))) (gives Done)
    ∷ line 1 (env 1 1) (Vm (NativeEnter (codes "lib/Tool") (codes "go") (codes "()V"))) (denies NoNativeAccess)
    ∷ line 1 (env 1 1) (Vm (NativeEnter (codes "lib/Tool") (codes "stop") (codes "()V"))) (denies NoNativeAccess)
    ∷ line 1 (env 1 1) (Vm (RegisterNatives (local 1 1) (codes "stop") (codes "()V"))) (denies NoNativeAccess)
    ∷ line 1 (env 1 1) (Vm (LoadLibrary (codes "java/lang/Object") (codes "base"))) (gives Done)
    ∷ line 1 (env 1 1) (Vm (LoadLibrary (codes "lib/None") (codes "tool"))) (denies BadArgument)
    ∷ []

-- the first use of its native code by a module is warned of
abbrev pub access_warned : List Line
access_warned =
    line 1 bare (Vm AttachCurrentThread) (gives (Environment (environment 1 1)))
    ∷ line 1 (env 1 1) (Objects (FindClass (codes "lib/Tool"))) (hands_out (local 1 1) 16)
    ∷ line 1 (env 1 1) (Vm (RegisterNatives (local 1 1) (codes "go") (codes "()V"))) (warns Done)
    ∷ line 1 (env 1 1) (Vm (LoadLibrary (codes "lib/Tool") (codes "tool"))) (gives Done)
    ∷ line 1 (env 1 1) (Vm (LoadLibrary (codes "app/Main") (codes "app"))) (gives Done)
    ∷ line 1 (env 1 1) (Vm (NativeEnter (codes "lib/Tool") (codes "go") (codes "()V"))) (hands_out (local 1 2) 16)
    ∷ []

-- where native code is allowed to all, nothing is warned of
abbrev pub access_allowed : List Line
access_allowed =
    line 1 bare (Vm AttachCurrentThread) (gives (Environment (environment 1 1)))
    ∷ line 1 (env 1 1) (Objects (FindClass (codes "lib/Tool"))) (hands_out (local 1 1) 16)
    ∷ line 1 (env 1 1) (Vm (RegisterNatives (local 1 1) (codes "go") (codes "()V"))) (gives Done)
    ∷ line 1 (env 1 1) (Vm (LoadLibrary (codes "lib/Tool") (codes "tool"))) (gives Done)
    ∷ line 1 (env 1 1) (Vm (LoadLibrary (codes "app/Main") (codes "app"))) (gives Done)
    ∷ line 1 (env 1 1) (Vm (NativeEnter (codes "lib/Tool") (codes "go") (codes "()V"))) (hands_out (local 1 2) 16)
    ∷ []

-- a call that throws is no use of native code
abbrev pub a_throw_warns_of_nothing : List Line
a_throw_warns_of_nothing =
    line 1 bare (Vm AttachCurrentThread) (gives (Environment (environment 1 1)))
    ∷ line 1 (env 1 1) (Objects (FindClass (codes "lib/Tool"))) (hands_out (local 1 1) 16)
    ∷ line 1 (env 1 1) (Vm (RegisterNatives (local 1 1) (codes "stop") (codes "()V"))) (throws NoSuchMethod 18)
    ∷ line 1 (env 1 1) (Exceptions ExceptionClear) (gives Done)
    ∷ line 1 (env 1 1) (Vm (NativeEnter (codes "lib/Tool") (codes "go") (codes "()V"))) (denies NotLinked)
    ∷ line 1 (env 1 1) (Vm (LoadLibrary (codes "lib/Tool") (codes "tool"))) (warns Done)
    ∷ line 1 (env 1 1) (Vm (RegisterNatives (local 1 1) (codes "go") (codes "()V"))) (gives Done)
    ∷ []
