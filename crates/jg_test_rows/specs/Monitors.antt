-- Rows on monitors.
use Rattle.std.specs.Prelude.{List, [], ◌∷◌}
use Rattle.jg_words.specs.declared.reference.Ref.TheVariants.{Null}
use Rattle.jg_words.specs.declared.value.Value.TheVariants.{Ok as Done, Environment, Busy}
use Rattle.jg_words.specs.declared.rule.Rule.TheVariants.{DeadReference, NullReference, NotOwner}
use Rattle.jg_words.specs.declared.call.Call.TheVariants.{Vm, Refs, Strings, Monitors}
use Rattle.jg_words.specs.declared.call.vm.VmCall.TheVariants.{AttachCurrentThread, DetachCurrentThread}
use Rattle.jg_words.specs.declared.call.refs.RefsCall.TheVariants.{NewGlobalRef}
use Rattle.jg_words.specs.declared.call.strings.StringsCall.TheVariants.{NewString}
use Rattle.jg_words.specs.declared.call.monitors.MonitorsCall.TheVariants.{MonitorEnter, MonitorExit}
use Rattle.jg_test_rows.specs.Lines.{Line, line, bare, env, environment, local, global, gives, hands_out, denies}

-- a monitor is entered again by its owner alone, and is free after as many exits
abbrev pub monitors : List Line
monitors =
    line 1 bare (Vm AttachCurrentThread) (gives (Environment (environment 1 1)))
    ∷ line 2 bare (Vm AttachCurrentThread) (gives (Environment (environment 2 1)))
    ∷ line 1 (env 1 1) (Strings (NewString [])) (hands_out (local 1 1) 15)
    ∷ line 1 (env 1 1) (Refs (NewGlobalRef (local 1 1))) (hands_out (global 1 2) 15)
    ∷ line 1 (env 1 1) (Monitors (MonitorEnter (local 1 1))) (gives Done)
    ∷ line 1 (env 1 1) (Monitors (MonitorEnter (global 1 2))) (gives Done)
    ∷ line 2 (env 2 1) (Monitors (MonitorEnter (global 1 2))) (gives Busy)
    ∷ line 1 (env 1 1) (Monitors (MonitorExit (global 1 2))) (gives Done)
    ∷ line 2 (env 2 1) (Monitors (MonitorEnter (global 1 2))) (gives Busy)
    ∷ line 1 (env 1 1) (Monitors (MonitorExit (global 1 2))) (gives Done)
    ∷ line 2 (env 2 1) (Monitors (MonitorEnter (global 1 2))) (gives Done)
    ∷ line 1 (env 1 1) (Monitors (MonitorExit (global 1 2))) (denies NotOwner)
    ∷ line 2 bare (Vm DetachCurrentThread) (gives Done)
    ∷ line 1 (env 1 1) (Monitors (MonitorEnter (global 1 2))) (gives Done)
    ∷ []

-- a thread's detachment frees the monitors that it owns
abbrev pub busy_until_detached : List Line
busy_until_detached =
    line 1 bare (Vm AttachCurrentThread) (gives (Environment (environment 1 1)))
    ∷ line 2 bare (Vm AttachCurrentThread) (gives (Environment (environment 2 1)))
    ∷ line 1 (env 1 1) (Strings (NewString [])) (hands_out (local 1 1) 15)
    ∷ line 1 (env 1 1) (Refs (NewGlobalRef (local 1 1))) (hands_out (global 1 2) 15)
    ∷ line 1 (env 1 1) (Monitors (MonitorEnter (global 1 2))) (gives Done)
    ∷ line 1 (env 1 1) (Monitors (MonitorEnter (global 1 2))) (gives Done)
    ∷ line 2 (env 2 1) (Monitors (MonitorEnter (global 1 2))) (gives Busy)
    ∷ line 1 bare (Vm DetachCurrentThread) (gives Done)
    ∷ line 2 (env 2 1) (Monitors (MonitorEnter (global 1 2))) (gives Done)
    ∷ line 2 (env 2 1) (Monitors (MonitorExit (global 1 2))) (gives Done)
    ∷ line 2 (env 2 1) (Monitors (MonitorExit (global 1 2))) (denies NotOwner)
    ∷ line 2 (env 2 1) (Monitors (MonitorEnter Null)) (denies NullReference)
    ∷ line 2 (env 2 1) (Monitors (MonitorExit (local 2 1))) (denies DeadReference)
    ∷ []
