-- The facts of a worked history, which hold by computing.
use Rattle.std.proofs.Common.{ℕ, ◌≡◌, pos, false, List, [], ◌∷◌, Some, None, refl}
use Rattle.std.specs.Prelude.{codes}
use Rattle.jg_words.specs.declared.thread.Tid.{Tid}
use Rattle.jg_words.specs.declared.object.ObjId.{ObjId}
use Rattle.jg_words.specs.declared.reference.Ref.{Ref}
use Rattle.jg_words.specs.declared.reference.Ref.TheVariants.{To}
use Rattle.jg_words.specs.declared.reference.Kind.TheVariants.{Local, Weak}
use Rattle.jg_words.specs.declared.call.Call.{Call}
use Rattle.jg_words.specs.declared.call.Call.TheVariants.{Vm, Refs, Frames, Exceptions, Objects, Monitors}
use Rattle.jg_words.specs.declared.call.vm.VmCall.TheVariants.{AttachCurrentThread, DetachCurrentThread, NativeEnter, NativeLeave, RegisterNatives, Collect}
use Rattle.jg_words.specs.declared.call.refs.RefsCall.TheVariants.{NewWeakGlobalRef}
use Rattle.jg_words.specs.declared.call.frames.FramesCall.TheVariants.{PushLocalFrame, PopLocalFrame}
use Rattle.jg_words.specs.declared.call.exceptions.ExceptionsCall.TheVariants.{ExceptionClear}
use Rattle.jg_words.specs.declared.call.objects.ObjectsCall.TheVariants.{FindClass, GetObjectClass, AllocObject}
use Rattle.jg_words.specs.declared.call.monitors.MonitorsCall.TheVariants.{MonitorEnter}
use Rattle.jg_policy.specs.declared.mode.Mode.TheVariants.{Warn as WarnOfUses}
use Rattle.jg_policy.specs.BaseClasses.{base_names}
use Rattle.jg_policy.specs.Stated.{StatedSetup}
use Rattle.jg_rules.specs.Legal.{Asked, replay}
use Rattle.jg_core.specs.declared.fact.Fact.{Fact}
use Rattle.jg_core.specs.declared.fact.Fact.TheVariants.{Begin, End, Enter, Leave, Push, Pop, Raise, Calm, Hand, Own, Meet, Gone, Link, Warn}
use Rattle.jg_entry_facts_laws.specs.Entries.{facts_of}

-- class 15 with a native method, in a module that uses native code with a warning; the first object is number 16
abbrev one_class : StatedSetup
one_class = record {
  mode = WarnOfUses;
  grants = [];
  classes = record {
    name = codes "app/Main";
    module_name = codes "app";
    throwable = false;
    fields = [];
    natives = record { name = codes "run"; signature = codes "()V" } ∷ [];
  } ∷ [];
}

abbrev t1 : Tid
t1 = record { 0 = 1 }

abbrev object : ℕ → ObjId
object o = record { 0 = o }

-- thread 1's local of that number
abbrev local : ℕ → Ref
local n = To Local t1 n

-- asked by thread 1 in its first session, without an environment, or by the virtual machine
abbrev in_session : Call → Asked
in_session call = record { tid = t1; env = Some (record { tid = t1; session = 1 }); call = call }

abbrev outside : Call → Asked
outside call = record { tid = t1; env = None; call = call }

abbrev by_machine : Call → Asked
by_machine call = record { tid = record { 0 = 0 }; env = None; call = call }

abbrev asked : List Asked
asked =
    outside (Vm AttachCurrentThread)
    ∷ outside (Vm AttachCurrentThread)
    ∷ in_session (Objects (FindClass (codes "app/Main")))
    ∷ in_session (Vm (RegisterNatives (local 1) (codes "run") (codes "()V")))
    ∷ in_session (Vm (NativeEnter (codes "app/Main") (codes "run") (codes "()V")))
    ∷ in_session (Objects (AllocObject (local 2)))
    ∷ in_session (Frames (PushLocalFrame (pos 4)))
    ∷ in_session (Refs (NewWeakGlobalRef (local 3)))
    ∷ in_session (Frames (PopLocalFrame (local 3)))
    ∷ in_session (Objects (FindClass (codes "none")))
    ∷ in_session (Vm (NativeLeave (local 5)))
    ∷ in_session (Exceptions ExceptionClear)
    ∷ in_session (Monitors (MonitorEnter (local 1)))
    ∷ in_session (Objects (GetObjectClass (local 3)))
    ∷ by_machine (Vm Collect)
    ∷ in_session (Vm DetachCurrentThread)
    ∷ outside (Vm DetachCurrentThread)
    ∷ []

-- from the newest on: the second attachment, the denied call for a local that has ended and the last detachment are none
abbrev told : List Fact
told =
    End t1
    ∷ Gone (object 17)
    ∷ Gone (object 16)
    ∷ Own t1 (object 15)
    ∷ Calm t1
    ∷ Raise t1 (object 17)
    ∷ Leave t1 None
    ∷ Raise t1 (object 17)
    ∷ Meet 12 0
    ∷ Pop t1 (Some (object 16))
    ∷ Hand t1 Weak (object 16)
    ∷ Push t1 4
    ∷ Hand t1 Local (object 16)
    ∷ Meet 15 0
    ∷ Hand t1 Local (object 15)
    ∷ Enter t1
    ∷ Warn 1
    ∷ Link 15 1
    ∷ Hand t1 Local (object 15)
    ∷ Begin t1
    ∷ []

worked : facts_of one_class (replay one_class asked) ≡ told
unfolding base_names
worked = refl
