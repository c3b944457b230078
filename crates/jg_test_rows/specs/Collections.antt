-- Rows on collections: what holds an object, and what goes.
use Rattle.std.specs.Prelude.{pos, true, codes, List, [], ◌∷◌}
use Rattle.jg_words.specs.declared.reference.Ref.TheVariants.{Null}
use Rattle.jg_words.specs.declared.value.Value.TheVariants.{Ok as Done, Number as Amount, Truth, Null as NullAnswer, Environment}
use Rattle.jg_words.specs.declared.value.Thrown.TheVariants.{NoClassDefFound}
use Rattle.jg_words.specs.declared.rule.Rule.TheVariants.{WrongThread, Detached, DeadReference, NullReference}
use Rattle.jg_words.specs.declared.call.Call.TheVariants.{Vm, Refs, Frames, Exceptions, Objects, Strings, Arrays, Monitors}
use Rattle.jg_words.specs.declared.call.vm.VmCall.TheVariants.{AttachCurrentThread, DetachCurrentThread, GetEnv, Collect}
use Rattle.jg_words.specs.declared.call.refs.RefsCall.TheVariants.{NewLocalRef, NewGlobalRef, NewWeakGlobalRef, DeleteLocalRef, DeleteGlobalRef, DeleteWeakGlobalRef, IsSameObject, GetObjectRefType}
use Rattle.jg_words.specs.declared.call.frames.FramesCall.TheVariants.{PushLocalFrame, PopLocalFrame}
use Rattle.jg_words.specs.declared.call.exceptions.ExceptionsCall.TheVariants.{ExceptionClear}
use Rattle.jg_words.specs.declared.call.objects.ObjectsCall.TheVariants.{FindClass, AllocObject, SetObjectField}
use Rattle.jg_words.specs.declared.call.strings.StringsCall.TheVariants.{NewString, GetStringLength}
use Rattle.jg_words.specs.declared.call.arrays.ArraysCall.TheVariants.{GetArrayLength, NewObjectArray, SetObjectArrayElement}
use Rattle.jg_words.specs.declared.call.monitors.MonitorsCall.TheVariants.{MonitorEnter, MonitorExit}
use Rattle.jg_test_rows.specs.Lines.{Line, line, bare, env, environment, local, global, weak, field, gives, hands_out, throws, denies}

-- a weak global reference doesn't hold its object; after a collection it counts as null
abbrev pub weak_cleared : List Line
weak_cleared =
    line 1 bare (Vm AttachCurrentThread) (gives (Environment (environment 1 1)))
    ∷ line 1 (env 1 1) (Strings (NewString (pos 65 ∷ []))) (hands_out (local 1 1) 15)
    ∷ line 1 (env 1 1) (Refs (NewWeakGlobalRef (local 1 1))) (hands_out (weak 1 2) 15)
    ∷ line 0 bare (Vm Collect) (gives (Amount (pos 0)))
    ∷ line 1 (env 1 1) (Refs (DeleteLocalRef (local 1 1))) (gives Done)
    ∷ line 0 bare (Vm Collect) (gives (Amount (pos 1)))
    ∷ line 1 (env 1 1) (Refs (NewLocalRef (weak 1 2))) (gives NullAnswer)
    ∷ line 1 (env 1 1) (Strings (GetStringLength (weak 1 2))) (denies NullReference)
    ∷ line 1 (env 1 1) (Refs (GetObjectRefType (weak 1 2))) (gives (Amount (pos 3)))
    ∷ line 1 (env 1 1) (Refs (IsSameObject (weak 1 2) Null)) (gives (Truth true))
    ∷ line 1 (env 1 1) (Refs (DeleteWeakGlobalRef (weak 1 2))) (gives Done)
    ∷ line 1 (env 1 1) (Refs (GetObjectRefType (weak 1 2))) (gives (Amount (pos 0)))
    ∷ line 1 (env 1 1) (Refs (DeleteWeakGlobalRef (weak 1 2))) (denies DeadReference)
    ∷ []

-- a weak global reference can be made strong up to the collection itself
abbrev pub weak_made_strong : List Line
weak_made_strong =
    line 1 bare (Vm AttachCurrentThread) (gives (Environment (environment 1 1)))
    ∷ line 1 (env 1 1) (Strings (NewString (pos 65 ∷ []))) (hands_out (local 1 1) 15)
    ∷ line 1 (env 1 1) (Refs (NewWeakGlobalRef (local 1 1))) (hands_out (weak 1 2) 15)
    ∷ line 1 (env 1 1) (Refs (DeleteLocalRef (local 1 1))) (gives Done)
    ∷ line 1 (env 1 1) (Refs (NewGlobalRef (weak 1 2))) (hands_out (global 1 3) 15)
    ∷ line 0 bare (Vm Collect) (gives (Amount (pos 0)))
    ∷ line 1 (env 1 1) (Refs (IsSameObject (weak 1 2) (global 1 3))) (gives (Truth true))
    ∷ line 1 (env 1 1) (Strings (GetStringLength (weak 1 2))) (gives (Amount (pos 1)))
    ∷ line 1 (env 1 1) (Refs (DeleteGlobalRef (global 1 3))) (gives Done)
    ∷ line 0 bare (Vm Collect) (gives (Amount (pos 1)))
    ∷ line 1 (env 1 1) (Refs (NewGlobalRef (weak 1 2))) (gives NullAnswer)
    ∷ line 1 (env 1 1) (Refs (NewWeakGlobalRef (weak 1 2))) (gives NullAnswer)
    ∷ line 1 (env 1 1) (Refs (GetObjectRefType (weak 1 2))) (gives (Amount (pos 3)))
    ∷ []

-- a chain goes one link at a collection: an object that is about to go still holds
abbrev pub chain_and_leaks : List Line
chain_and_leaks =
    line 1 bare (Vm AttachCurrentThread) (gives (Environment (environment 1 1)))
    ∷ line 1 (env 1 1) (Objects (FindClass (codes "app/Main"))) (hands_out (local 1 1) 15)
    ∷ line 1 (env 1 1) (Objects (AllocObject (local 1 1))) (hands_out (local 1 2) 18)
    ∷ line 1 (env 1 1) (Objects (AllocObject (local 1 1))) (hands_out (local 1 3) 19)
    ∷ line 1 (env 1 1) (Objects (SetObjectField (local 1 2) (field 15 2) (local 1 3))) (gives Done)
    ∷ line 1 (env 1 1) (Refs (DeleteLocalRef (local 1 3))) (gives Done)
    ∷ line 1 (env 1 1) (Refs (DeleteLocalRef (local 1 2))) (gives Done)
    ∷ line 0 bare (Vm Collect) (gives (Amount (pos 1)))
    ∷ line 0 bare (Vm Collect) (gives (Amount (pos 1)))
    ∷ line 0 bare (Vm Collect) (gives (Amount (pos 0)))
    ∷ line 1 (env 1 1) (Monitors (MonitorEnter (local 1 1))) (gives Done)
    ∷ []

-- two objects that hold one another are never collected
abbrev pub a_cycle_stays : List Line
a_cycle_stays =
    line 1 bare (Vm AttachCurrentThread) (gives (Environment (environment 1 1)))
    ∷ line 1 (env 1 1) (Objects (FindClass (codes "java/lang/Object"))) (hands_out (local 1 1) 0)
    ∷ line 1 (env 1 1) (Arrays (NewObjectArray (pos 1) (local 1 1) Null)) (hands_out (local 1 2) 15)
    ∷ line 1 (env 1 1) (Arrays (NewObjectArray (pos 1) (local 1 1) (local 1 2))) (hands_out (local 1 3) 16)
    ∷ line 1 (env 1 1) (Arrays (SetObjectArrayElement (local 1 2) (pos 0) (local 1 3))) (gives Done)
    ∷ line 1 (env 1 1) (Refs (NewWeakGlobalRef (local 1 2))) (hands_out (weak 1 4) 15)
    ∷ line 1 (env 1 1) (Refs (DeleteLocalRef (local 1 2))) (gives Done)
    ∷ line 1 (env 1 1) (Refs (DeleteLocalRef (local 1 3))) (gives Done)
    ∷ line 0 bare (Vm Collect) (gives (Amount (pos 0)))
    ∷ line 0 bare (Vm Collect) (gives (Amount (pos 0)))
    ∷ line 1 (env 1 1) (Arrays (GetArrayLength (weak 1 4))) (gives (Amount (pos 1)))
    ∷ []

-- a local reference holds its object, and so does a global one, each alone
abbrev pub held_by_references : List Line
held_by_references =
    line 1 bare (Vm AttachCurrentThread) (gives (Environment (environment 1 1)))
    ∷ line 1 (env 1 1) (Strings (NewString [])) (hands_out (local 1 1) 15)
    ∷ line 0 bare (Vm Collect) (gives (Amount (pos 0)))
    ∷ line 1 (env 1 1) (Refs (NewGlobalRef (local 1 1))) (hands_out (global 1 2) 15)
    ∷ line 1 (env 1 1) (Refs (DeleteLocalRef (local 1 1))) (gives Done)
    ∷ line 0 bare (Vm Collect) (gives (Amount (pos 0)))
    ∷ line 1 (env 1 1) (Refs (DeleteGlobalRef (global 1 2))) (gives Done)
    ∷ line 0 bare (Vm Collect) (gives (Amount (pos 1)))
    ∷ line 1 (env 1 1) (Frames (PushLocalFrame (pos 1))) (gives Done)
    ∷ line 1 (env 1 1) (Strings (NewString [])) (hands_out (local 1 3) 16)
    ∷ line 0 bare (Vm Collect) (gives (Amount (pos 0)))
    ∷ line 1 (env 1 1) (Frames (PopLocalFrame Null)) (gives NullAnswer)
    ∷ line 0 bare (Vm Collect) (gives (Amount (pos 1)))
    ∷ line 1 (env 1 1) (Strings (NewString [])) (hands_out (local 1 4) 17)
    ∷ line 1 bare (Vm DetachCurrentThread) (gives Done)
    ∷ line 0 bare (Vm Collect) (gives (Amount (pos 1)))
    ∷ []

-- a pending exception is held until it is cleared
abbrev pub held_by_a_pending_exception : List Line
held_by_a_pending_exception =
    line 1 bare (Vm AttachCurrentThread) (gives (Environment (environment 1 1)))
    ∷ line 1 (env 1 1) (Objects (FindClass (codes "no/Such"))) (throws NoClassDefFound 15)
    ∷ line 0 bare (Vm Collect) (gives (Amount (pos 0)))
    ∷ line 1 (env 1 1) (Exceptions ExceptionClear) (gives Done)
    ∷ line 0 bare (Vm Collect) (gives (Amount (pos 1)))
    ∷ line 1 (env 1 1) (Objects (FindClass (codes "no/Such"))) (throws NoClassDefFound 16)
    ∷ line 1 bare (Vm DetachCurrentThread) (gives Done)
    ∷ line 0 bare (Vm Collect) (gives (Amount (pos 1)))
    ∷ []

-- an object whose monitor is owned is held until the last exit, or the owner's detachment
abbrev pub held_by_a_monitor : List Line
held_by_a_monitor =
    line 1 bare (Vm AttachCurrentThread) (gives (Environment (environment 1 1)))
    ∷ line 1 (env 1 1) (Strings (NewString [])) (hands_out (local 1 1) 15)
    ∷ line 1 (env 1 1) (Refs (NewWeakGlobalRef (local 1 1))) (hands_out (weak 1 2) 15)
    ∷ line 1 (env 1 1) (Monitors (MonitorEnter (local 1 1))) (gives Done)
    ∷ line 1 (env 1 1) (Monitors (MonitorEnter (local 1 1))) (gives Done)
    ∷ line 1 (env 1 1) (Refs (DeleteLocalRef (local 1 1))) (gives Done)
    ∷ line 0 bare (Vm Collect) (gives (Amount (pos 0)))
    ∷ line 1 (env 1 1) (Monitors (MonitorExit (weak 1 2))) (gives Done)
    ∷ line 0 bare (Vm Collect) (gives (Amount (pos 0)))
    ∷ line 1 (env 1 1) (Monitors (MonitorExit (weak 1 2))) (gives Done)
    ∷ line 0 bare (Vm Collect) (gives (Amount (pos 1)))
    ∷ line 1 (env 1 1) (Monitors (MonitorEnter (weak 1 2))) (denies NullReference)
    ∷ line 1 (env 1 1) (Strings (NewString [])) (hands_out (local 1 3) 16)
    ∷ line 1 (env 1 1) (Monitors (MonitorEnter (local 1 3))) (gives Done)
    ∷ line 1 (env 1 1) (Refs (DeleteLocalRef (local 1 3))) (gives Done)
    ∷ line 0 bare (Vm Collect) (gives (Amount (pos 0)))
    ∷ line 1 bare (Vm DetachCurrentThread) (gives Done)
    ∷ line 0 bare (Vm Collect) (gives (Amount (pos 1)))
    ∷ []

-- what an array's item or an object's field names is held
abbrev pub held_by_a_slot : List Line
held_by_a_slot =
    line 1 bare (Vm AttachCurrentThread) (gives (Environment (environment 1 1)))
    ∷ line 1 (env 1 1) (Objects (FindClass (codes "java/lang/Object"))) (hands_out (local 1 1) 0)
    ∷ line 1 (env 1 1) (Strings (NewString (pos 65 ∷ []))) (hands_out (local 1 2) 15)
    ∷ line 1 (env 1 1) (Arrays (NewObjectArray (pos 2) (local 1 1) (local 1 2))) (hands_out (local 1 3) 16)
    ∷ line 1 (env 1 1) (Refs (DeleteLocalRef (local 1 2))) (gives Done)
    ∷ line 0 bare (Vm Collect) (gives (Amount (pos 0)))
    ∷ line 1 (env 1 1) (Arrays (SetObjectArrayElement (local 1 3) (pos 0) Null)) (gives Done)
    ∷ line 0 bare (Vm Collect) (gives (Amount (pos 0)))
    ∷ line 1 (env 1 1) (Arrays (SetObjectArrayElement (local 1 3) (pos 1) Null)) (gives Done)
    ∷ line 0 bare (Vm Collect) (gives (Amount (pos 1)))
    ∷ line 1 (env 1 1) (Arrays (GetArrayLength (local 1 3))) (gives (Amount (pos 2)))
    ∷ []

-- the virtual machine itself collects, and nobody else does
abbrev pub thread_zero_collects : List Line
thread_zero_collects =
    line 0 bare (Vm Collect) (gives (Amount (pos 0)))
    ∷ line 0 (env 0 1) (Vm Collect) (denies Detached)
    ∷ line 1 bare (Vm Collect) (denies WrongThread)
    ∷ line 1 bare (Vm AttachCurrentThread) (gives (Environment (environment 1 1)))
    ∷ line 1 (env 1 1) (Vm Collect) (denies WrongThread)
    ∷ line 0 (env 1 1) (Vm Collect) (denies WrongThread)
    ∷ line 0 bare (Vm GetEnv) (denies WrongThread)
    ∷ []
