-- Rows on attachment and on the first two rules.
use Rattle.std.specs.Prelude.{pos, List, [], ◌∷◌}
use Rattle.jg_words.specs.declared.reference.Ref.TheVariants.{Null}
use Rattle.jg_words.specs.declared.value.Value.TheVariants.{Ok as Done, Number as Amount, Environment, Detached as NotAttached}
use Rattle.jg_words.specs.declared.rule.Rule.TheVariants.{WrongThread, Detached, DeadReference, BadFrame}
use Rattle.jg_words.specs.declared.call.Call.TheVariants.{Vm, Refs, Frames, Strings, Exceptions}
use Rattle.jg_words.specs.declared.call.vm.VmCall.TheVariants.{AttachCurrentThread, DetachCurrentThread, GetEnv, Collect}
use Rattle.jg_words.specs.declared.call.refs.RefsCall.TheVariants.{NewLocalRef, GetObjectRefType}
use Rattle.jg_words.specs.declared.call.frames.FramesCall.TheVariants.{PushLocalFrame, PopLocalFrame}
use Rattle.jg_words.specs.declared.call.strings.StringsCall.TheVariants.{NewString}
use Rattle.jg_words.specs.declared.call.exceptions.ExceptionsCall.TheVariants.{ExceptionCheck}
use Rattle.jg_test_rows.specs.Lines.{Line, line, bare, env, environment, local, gives, hands_out, denies}

-- attaching an attached thread and detaching a detached one do nothing
abbrev pub attach_no_ops : List Line
attach_no_ops =
    line 1 bare (Vm AttachCurrentThread) (gives (Environment (environment 1 1)))
    ∷ line 1 bare (Vm AttachCurrentThread) (gives (Environment (environment 1 1)))
    ∷ line 1 bare (Vm DetachCurrentThread) (gives Done)
    ∷ line 1 bare (Vm DetachCurrentThread) (gives Done)
    ∷ line 1 bare (Vm GetEnv) (gives NotAttached)
    ∷ line 1 bare (Vm AttachCurrentThread) (gives (Environment (environment 1 2)))
    ∷ line 1 bare (Vm GetEnv) (gives (Environment (environment 1 2)))
    ∷ []

-- an environment of another thread, of a past session, of one yet to come, and none
abbrev pub other_environments : List Line
other_environments =
    line 1 bare (Vm AttachCurrentThread) (gives (Environment (environment 1 1)))
    ∷ line 2 bare (Vm AttachCurrentThread) (gives (Environment (environment 2 1)))
    ∷ line 2 (env 1 1) (Refs (GetObjectRefType Null)) (denies WrongThread)
    ∷ line 1 bare (Vm DetachCurrentThread) (gives Done)
    ∷ line 1 (env 1 1) (Refs (GetObjectRefType Null)) (denies Detached)
    ∷ line 2 (env 1 1) (Refs (GetObjectRefType Null)) (denies WrongThread)
    ∷ line 2 bare (Refs (GetObjectRefType Null)) (denies Detached)
    ∷ line 2 (env 2 2) (Refs (GetObjectRefType Null)) (denies Detached)
    ∷ line 2 (env 2 1) (Refs (GetObjectRefType Null)) (gives (Amount (pos 0)))
    ∷ line 1 bare (Vm AttachCurrentThread) (gives (Environment (environment 1 2)))
    ∷ line 1 (env 1 1) (Refs (GetObjectRefType Null)) (denies Detached)
    ∷ line 1 (env 1 2) (Refs (GetObjectRefType Null)) (gives (Amount (pos 0)))
    ∷ []

-- functions that take no environment are judged by one that they are given
abbrev pub getenv_with_environment : List Line
getenv_with_environment =
    line 1 (env 1 1) (Vm GetEnv) (denies Detached)
    ∷ line 1 bare (Vm AttachCurrentThread) (gives (Environment (environment 1 1)))
    ∷ line 1 (env 1 1) (Vm GetEnv) (gives (Environment (environment 1 1)))
    ∷ line 1 (env 1 2) (Vm GetEnv) (denies Detached)
    ∷ line 2 (env 1 1) (Vm GetEnv) (denies WrongThread)
    ∷ line 2 (env 1 1) (Vm AttachCurrentThread) (denies WrongThread)
    ∷ line 2 bare (Vm GetEnv) (gives NotAttached)
    ∷ line 1 (env 1 1) (Vm DetachCurrentThread) (gives Done)
    ∷ line 1 (env 1 1) (Vm AttachCurrentThread) (denies Detached)
    ∷ line 1 bare (Vm GetEnv) (gives NotAttached)
    ∷ []

-- the virtual machine itself makes none of these calls
abbrev pub thread_zero : List Line
thread_zero =
    line 0 bare (Vm AttachCurrentThread) (denies WrongThread)
    ∷ line 0 bare (Vm GetEnv) (denies WrongThread)
    ∷ line 0 (env 0 1) (Vm DetachCurrentThread) (denies WrongThread)
    ∷ line 0 (env 0 1) (Strings (NewString [])) (denies WrongThread)
    ∷ line 1 (env 0 1) (Strings (NewString [])) (denies WrongThread)
    ∷ []

-- attaching again ends nothing; a detachment ends the thread's references and frames; its numbers go on
abbrev pub nothing_outlives_a_session : List Line
nothing_outlives_a_session =
    line 1 bare (Vm AttachCurrentThread) (gives (Environment (environment 1 1)))
    ∷ line 1 (env 1 1) (Strings (NewString [])) (hands_out (local 1 1) 15)
    ∷ line 1 (env 1 1) (Frames (PushLocalFrame (pos 1))) (gives Done)
    ∷ line 1 (env 1 1) (Strings (NewString [])) (hands_out (local 1 2) 16)
    ∷ line 1 bare (Vm AttachCurrentThread) (gives (Environment (environment 1 1)))
    ∷ line 1 (env 1 1) (Refs (GetObjectRefType (local 1 2))) (gives (Amount (pos 1)))
    ∷ line 1 bare (Vm DetachCurrentThread) (gives Done)
    ∷ line 1 bare (Vm AttachCurrentThread) (gives (Environment (environment 1 2)))
    ∷ line 1 (env 1 2) (Refs (GetObjectRefType (local 1 1))) (gives (Amount (pos 0)))
    ∷ line 1 (env 1 2) (Refs (NewLocalRef (local 1 2))) (denies DeadReference)
    ∷ line 1 (env 1 2) (Frames (PopLocalFrame Null)) (denies BadFrame)
    ∷ line 1 (env 1 2) (Strings (NewString [])) (hands_out (local 1 3) 17)
    ∷ line 1 (env 1 2) (Refs (GetObjectRefType (local 1 3))) (gives (Amount (pos 1)))
    ∷ []

-- the first two rules: the environment of another thread, and one whose session ended
abbrev pub first_two_rules : List Line
first_two_rules =
    line 1 bare (Vm AttachCurrentThread) (gives (Environment (environment 1 1)))
    ∷ line 2 bare (Vm AttachCurrentThread) (gives (Environment (environment 2 1)))
    ∷ line 2 (env 1 1) (Exceptions ExceptionCheck) (denies WrongThread)
    ∷ line 1 bare (Vm DetachCurrentThread) (gives Done)
    ∷ line 1 (env 1 1) (Exceptions ExceptionCheck) (denies Detached)
    ∷ line 2 (env 1 1) (Exceptions ExceptionCheck) (denies WrongThread)
    ∷ line 2 bare (Exceptions ExceptionCheck) (denies Detached)
    ∷ line 2 bare (Vm Collect) (denies WrongThread)
    ∷ []
