-- Rows on native access by the operation that is granted.
use Rattle.std.specs.Prelude.{List, [], ◌∷◌, codes}
use Rattle.jg_words.specs.declared.value.Value.TheVariants.{Ok as Done, Environment}
use Rattle.jg_words.specs.declared.rule.Rule.TheVariants.{NoNativeAccess}
use Rattle.jg_words.specs.declared.call.Call.TheVariants.{Vm, Objects}
use Rattle.jg_words.specs.declared.call.vm.VmCall.TheVariants.{AttachCurrentThread, NativeEnter, LoadLibrary, RegisterNatives}
use Rattle.jg_words.specs.declared.call.objects.ObjectsCall.TheVariants.{FindClass}
use Rattle.jg_test_rows.specs.Lines.{Line, line, bare, env, environment, local, gives, warns, hands_out, denies}

-- a module has the uses of native code that it is granted, and no others
abbrev pub grants_deny : List Line
grants_deny =
    line 1 bare (Vm AttachCurrentThread) (gives (Environment (environment 1 1)))
    ∷ line 1 (env 1 1) (Objects (FindClass (codes "lib/Tool"))) (hands_out (local 1 1) 16)
    ∷ line 1 (env 1 1) (Vm (LoadLibrary (codes "lib/Tool") (codes "tool"))) (gives Done)
    ∷ line 1 (env 1 1) (Vm (RegisterNatives (local 1 1) (codes "go") (codes "()V"))) (denies NoNativeAccess)
    ∷ line 1 (env 1 1) (Vm (LoadLibrary (codes "app/Main") (codes "app"))) (denies NoNativeAccess)
    ∷ line 1 (env 1 1) (Objects (FindClass (codes "app/Main"))) (hands_out (local 1 2) 15)
    ∷ line 1 (env 1 1) (Vm (RegisterNatives (local 1 2) (codes "run") (codes "()V"))) (gives Done)
    ∷ line 1 (env 1 1) (Vm (NativeEnter (codes "app/Main") (codes "run") (codes "()V"))) (hands_out (local 1 3) 15)
    ∷ []

-- the first use that a module isn't granted is warned of, and no later one of that module
abbrev pub grants_warn : List Line
grants_warn =
    line 1 bare (Vm AttachCurrentThread) (gives (Environment (environment 1 1)))
    ∷ line 1 (env 1 1) (Objects (FindClass (codes "lib/Tool"))) (hands_out (local 1 1) 16)
    ∷ line 1 (env 1 1) (Vm (LoadLibrary (codes "lib/Tool") (codes "tool"))) (gives Done)
    ∷ line 1 (env 1 1) (Vm (RegisterNatives (local 1 1) (codes "go") (codes "()V"))) (warns Done)
    ∷ line 1 (env 1 1) (Vm (NativeEnter (codes "lib/Tool") (codes "go") (codes "()V"))) (hands_out (local 1 2) 16)
    ∷ line 1 (env 1 1) (Vm (LoadLibrary (codes "app/Main") (codes "app"))) (warns Done)
    ∷ []
