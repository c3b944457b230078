-- Worked rows: a few calls in the order in which they are made, of which the last one is denied, and what is told of
-- it.
use Rattle.std.specs.Prelude.{◌≡◌, ℕ, pos, negsuc, Bool, true, false, List, [], ◌∷◌, codes, map, Option, Some, None}
use Rattle.jg_words.specs.declared.object.Primitive.TheVariants.{Int}
use Rattle.jg_words.specs.declared.reference.Ref.TheVariants.{Null}
use Rattle.jg_words.specs.declared.rule.Rule.{Rule}
use Rattle.jg_words.specs.declared.rule.Rule.TheVariants as rule
use Rattle.jg_words.specs.declared.thread.EnvId.{EnvId}
use Rattle.jg_words.specs.declared.thread.Tid.{Tid}
use Rattle.jg_words.specs.declared.object.ObjId.{ObjId}
use Rattle.jg_words.specs.Entry.{Entry}
use Rattle.jg_words.specs.declared.call.Call.{Call}
use Rattle.jg_words.specs.declared.call.Call.TheVariants.{Vm, Refs, Frames, Exceptions, Objects, Strings, Arrays, Monitors, Buffers}
use Rattle.jg_words.specs.declared.call.vm.VmCall.TheVariants.{AttachCurrentThread, DetachCurrentThread, NativeEnter, LoadLibrary, RegisterNatives, UnregisterNatives, Collect}
use Rattle.jg_words.specs.declared.call.refs.RefsCall.TheVariants.{NewGlobalRef, NewWeakGlobalRef, DeleteLocalRef, DeleteGlobalRef}
use Rattle.jg_words.specs.declared.call.frames.FramesCall.TheVariants.{PushLocalFrame, PopLocalFrame}
use Rattle.jg_words.specs.declared.call.exceptions.ExceptionsCall.TheVariants.{ExceptionCheck}
use Rattle.jg_words.specs.declared.call.objects.ObjectsCall.TheVariants.{FindClass, GetField}
use Rattle.jg_words.specs.declared.call.strings.StringsCall.TheVariants.{NewString, GetStringLength}
use Rattle.jg_words.specs.declared.call.arrays.ArraysCall.TheVariants.{NewArray, GetArrayLength, GetArrayRegion}
use Rattle.jg_words.specs.declared.call.monitors.MonitorsCall.TheVariants.{MonitorEnter, MonitorExit}
use Rattle.jg_words.specs.declared.call.buffers.BuffersCall.TheVariants.{GetArrayElements, ReleaseArrayElements, GetPrimitiveArrayCritical, ReleasePrimitiveArrayCritical, BufferRead}
use Rattle.jg_policy.specs.declared.mode.Mode.TheVariants.{Deny}
use Rattle.jg_policy.specs.declared.access.Operation.TheVariants.{Load}
use Rattle.jg_policy.specs.Stated.{StatedSetup}
use Rattle.jg_rules.specs.declared.operand.ObjectType.TheVariants.{StringObject}
use Rattle.jg_rules.specs.Legal.{Asked, replay}
use Rattle.jg_breaches.specs.declared.breach.Argument.TheVariants.{Capacity}
use Rattle.jg_breaches.specs.declared.breach.Breach.{Breach}
use Rattle.jg_breaches.specs.declared.breach.Breach.TheVariants as breach
use Rattle.jg_breaches.specs.declared.condition.Condition.{Condition}
use Rattle.jg_breaches.specs.declared.condition.Condition.TheVariants.{IsAttached, IsPresent, HasPending, Names, NamesObject, IsOpen, Owns, IsOwned, HasFrame, IsLinked}
use Rattle.jg_explain.specs.declared.watching.Watch.{Watch}
use Rattle.jg_explain.specs.Explained.{Cause, all_known, causes}
use Rattle.jg_test_rows.specs.Lines.{closed, environment, bare, env, local, global, weak, buffer}
use Rattle.jg_test_rows.specs.Setups.{two_modules}

-- t's call, with that environment or none
abbrev pub by : ℕ → Option EnvId → Call → Asked
by t e call = record { tid = record { 0 = t }; env = e; call = call }

-- T1's call, with the environment of its first session
abbrev pub own : Call → Asked
own call = by 1 (env 1 1) call

abbrev pub attach : ℕ → Asked
attach t = by t bare (Vm AttachCurrentThread)

abbrev pub thread : ℕ → Tid
thread t = record { 0 = t }

-- with no class but the base classes the first object that is made is number 15
abbrev pub object : ℕ → ObjId
object n = record { 0 = n }

-- the rule that denied a call, in which way the call broke it, and what is known of its conditions
pub record Told : Type 0 where
  pub rule : Rule
  pub breach : Breach
  pub known : List Watch

abbrev pub told_of : StatedSetup → List Entry → Cause → Told
told_of setup h c = record { rule = c.rule; breach = c.breach; known = all_known setup h c }

-- of these calls just one is denied under the setup, and this is told of it
abbrev pub TellsUnder : StatedSetup → List Asked → Rule → Breach → List Watch → Type 0
TellsUnder setup calls rule breach known =
    map (told_of setup (replay setup calls)) (causes setup (replay setup calls))
    ≡ record { rule = rule; breach = breach; known = known } ∷ []

-- .. under the setup that states nothing
abbrev pub Tells : List Asked → Rule → Breach → List Watch → Type 0
Tells = TellsUnder closed

-- just before the entry at that place the condition holds or not, it turned last at this entry, and before that at this
-- one
abbrev pub known : ℕ → Condition → Bool → Option ℕ → Option ℕ → Watch
known place c holds latest earlier =
    record { place = place; condition = c; holds = holds; turns = record { latest = latest; earlier = earlier } }

-- ---- rule 1: another thread's environment

abbrev pub anothers_environment : Type 0
anothers_environment = Tells
    (attach 1 ∷ attach 2 ∷ by 1 (env 2 1) (Exceptions ExceptionCheck) ∷ [])
    rule.WrongThread (breach.EnvOfAnother (environment 2 1))
    (known 2 (IsPresent (environment 2 1)) true (Some 1) None ∷ [])

-- ---- rule 2: never attached, and attached no more

abbrev pub never_attached : Type 0
never_attached = Tells
    (by 1 bare (Exceptions ExceptionCheck) ∷ [])
    rule.Detached breach.NoEnv
    (known 0 (IsAttached (thread 1)) false None None ∷ [])

abbrev pub detached : Type 0
detached = Tells
    (attach 1 ∷ by 1 bare (Vm DetachCurrentThread) ∷ own (Exceptions ExceptionCheck) ∷ [])
    rule.Detached (breach.NotPresent (environment 1 1))
    (known 2 (IsPresent (environment 1 1)) false (Some 1) (Some 0) ∷ [])

-- ---- rule 3: of two critical buffers the one that is open still

abbrev pub in_region : Type 0
in_region = Tells
    (attach 1
    ∷ own (Arrays (NewArray Int (pos 2)))
    ∷ own (Buffers (GetPrimitiveArrayCritical (local 1 1)))
    ∷ own (Buffers (GetPrimitiveArrayCritical (local 1 1)))
    ∷ own (Buffers (ReleasePrimitiveArrayCritical (local 1 1) (buffer 1 1) (pos 0)))
    ∷ own (Arrays (GetArrayLength (local 1 1)))
    ∷ [])
    rule.InCritical breach.InRegion
    (known 5 (IsOpen (buffer 1 2)) true (Some 3) None ∷ [])

-- ---- rule 4: a region outside its array threw

abbrev pub thrown : Type 0
thrown = Tells
    (attach 1
    ∷ own (Arrays (NewArray Int (pos 2)))
    ∷ own (Arrays (GetArrayRegion Int (local 1 1) (pos 1) (pos 2)))
    ∷ own (Arrays (GetArrayLength (local 1 1)))
    ∷ [])
    rule.Pending (breach.ExceptionPending 10)
    (known 3 (HasPending (thread 1)) true (Some 2) None ∷ [])

-- ---- rule 5: it lives for the thread that it was handed to

abbrev pub anothers_local : Type 0
anothers_local = Tells
    (attach 1
    ∷ attach 2
    ∷ by 2 (env 2 1) (Strings (NewString []))
    ∷ own (Strings (GetStringLength (local 2 1)))
    ∷ [])
    rule.ForeignLocal (breach.ForeignLocal (local 2 1))
    (known 3 (Names (thread 2) (local 2 1)) true (Some 2) None ∷ [])

-- ---- rule 6: deleted, popped, never made, of a session that ended

abbrev pub deleted : Type 0
deleted = Tells
    (attach 1
    ∷ own (Strings (NewString []))
    ∷ own (Strings (GetStringLength (local 1 1)))
    ∷ own (Refs (DeleteLocalRef (local 1 1)))
    ∷ own (Strings (GetStringLength (local 1 1)))
    ∷ [])
    rule.DeadReference (breach.DeadReference (local 1 1))
    (known 4 (Names (thread 1) (local 1 1)) false (Some 3) (Some 1) ∷ [])

abbrev pub popped : Type 0
popped = Tells
    (attach 1
    ∷ own (Frames (PushLocalFrame (pos 4)))
    ∷ own (Strings (NewString []))
    ∷ own (Frames (PopLocalFrame Null))
    ∷ own (Strings (GetStringLength (local 1 1)))
    ∷ [])
    rule.DeadReference (breach.DeadReference (local 1 1))
    (known 4 (Names (thread 1) (local 1 1)) false (Some 3) (Some 2) ∷ [])

abbrev pub never_made : Type 0
never_made = Tells
    (attach 1 ∷ own (Strings (NewString [])) ∷ own (Strings (GetStringLength (local 1 7))) ∷ [])
    rule.DeadReference (breach.DeadReference (local 1 7))
    (known 2 (Names (thread 1) (local 1 7)) false None None ∷ [])

abbrev pub session_ended : Type 0
session_ended = Tells
    (attach 1
    ∷ own (Strings (NewString []))
    ∷ by 1 bare (Vm DetachCurrentThread)
    ∷ attach 1
    ∷ by 1 (env 1 2) (Strings (GetStringLength (local 1 1)))
    ∷ [])
    rule.DeadReference (breach.DeadReference (local 1 1))
    (known 4 (Names (thread 1) (local 1 1)) false (Some 2) (Some 1) ∷ [])

-- ---- rule 7: a global reference handed to a function that deletes local ones

abbrev pub other_kind : Type 0
other_kind = Tells
    (attach 1
    ∷ own (Strings (NewString []))
    ∷ own (Refs (NewGlobalRef (local 1 1)))
    ∷ own (Refs (DeleteLocalRef (global 1 2)))
    ∷ [])
    rule.WrongRefKind (breach.OtherKind (global 1 2))
    (known 3 (Names (thread 1) (global 1 2)) true (Some 2) None ∷ [])

-- ---- rule 8: null, and a weak reference that a collection cleared

abbrev pub null : Type 0
null = Tells
    (attach 1 ∷ own (Strings (GetStringLength Null)) ∷ [])
    rule.NullReference (breach.NoObject Null)
    []

abbrev pub cleared : Type 0
cleared = Tells
    (attach 1
    ∷ own (Strings (NewString []))
    ∷ own (Refs (NewWeakGlobalRef (local 1 1)))
    ∷ own (Refs (DeleteLocalRef (local 1 1)))
    ∷ by 0 bare (Vm Collect)
    ∷ own (Strings (GetStringLength (weak 1 2)))
    ∷ [])
    rule.NullReference (breach.NoObject (weak 1 2))
    (known 5 (NamesObject (thread 1) (weak 1 2)) false (Some 4) (Some 2) ∷ [])

-- ---- rule 9: an array of int, which is class 8, where a string is wanted

abbrev pub other_type : Type 0
other_type = Tells
    (attach 1
    ∷ own (Arrays (NewArray Int (pos 2)))
    ∷ own (Strings (GetStringLength (local 1 1)))
    ∷ [])
    rule.WrongType (breach.OtherType (local 1 1) StringObject 8)
    (known 2 (Names (thread 1) (local 1 1)) true (Some 1) None ∷ [])

-- ---- rule 10: a field of class 15 of a string, which is class 2

abbrev pub other_class : Type 0
other_class = TellsUnder (two_modules Deny)
    (attach 1
    ∷ own (Strings (NewString []))
    ∷ own (Objects (GetField Int (local 1 1) (record { class = 15; field = 1 })))
    ∷ [])
    rule.BadField (breach.FieldOfOtherClass (local 1 1) (record { class = 15; field = 1 }) 2)
    (known 2 (Names (thread 1) (local 1 1)) true (Some 1) None ∷ [])

-- ---- rule 11: a released buffer

abbrev pub released : Type 0
released = Tells
    (attach 1
    ∷ own (Arrays (NewArray Int (pos 2)))
    ∷ own (Buffers (GetArrayElements Int (local 1 1)))
    ∷ own (Buffers (ReleaseArrayElements Int (local 1 1) (buffer 1 1) (pos 0)))
    ∷ by 1 bare (Buffers (BufferRead (buffer 1 1) (pos 0)))
    ∷ [])
    rule.BadBuffer (breach.NotOpen (buffer 1 1))
    (known 4 (IsOpen (buffer 1 1)) false (Some 3) (Some 2) ∷ [])

-- ---- rule 12: a capacity below 0

abbrev pub out_of_range : Type 0
out_of_range = Tells
    (attach 1 ∷ own (Frames (PushLocalFrame (negsuc 0))) ∷ [])
    rule.BadArgument (breach.OutOfRange Capacity (negsuc 0) (pos 0) (pos 65535))
    []

-- ---- rule 13: a critical buffer was opened through the reference

abbrev pub pinned : Type 0
pinned = Tells
    (attach 1
    ∷ attach 2
    ∷ own (Arrays (NewArray Int (pos 2)))
    ∷ own (Refs (NewGlobalRef (local 1 1)))
    ∷ own (Buffers (GetPrimitiveArrayCritical (global 1 2)))
    ∷ by 2 (env 2 1) (Refs (DeleteGlobalRef (global 1 2)))
    ∷ [])
    rule.Pinned (breach.PinnedReference (global 1 2))
    (known 5 (IsOpen (buffer 1 1)) true (Some 4) None ∷ [])

-- ---- rule 14: another thread owns the monitor; nobody does any more

abbrev pub owned : Type 0
owned = Tells
    (attach 1
    ∷ attach 2
    ∷ own (Strings (NewString []))
    ∷ own (Refs (NewGlobalRef (local 1 1)))
    ∷ by 2 (env 2 1) (Monitors (MonitorEnter (global 1 2)))
    ∷ own (Monitors (MonitorExit (global 1 2)))
    ∷ [])
    rule.NotOwner (breach.NotOwner (global 1 2) (object 15) 2 (Some (thread 2)))
    (known 5 (Owns (thread 2) (object 15)) true (Some 4) None ∷ [])

abbrev pub exited : Type 0
exited = Tells
    (attach 1
    ∷ own (Strings (NewString []))
    ∷ own (Monitors (MonitorEnter (local 1 1)))
    ∷ own (Monitors (MonitorExit (local 1 1)))
    ∷ own (Monitors (MonitorExit (local 1 1)))
    ∷ [])
    rule.NotOwner (breach.NotOwner (local 1 1) (object 15) 2 None)
    (known 4 (IsOwned (object 15)) false (Some 3) (Some 2) ∷ [])

-- ---- rule 15: a frame that was popped before

abbrev pub popped_twice : Type 0
popped_twice = Tells
    (attach 1
    ∷ own (Frames (PushLocalFrame (pos 4)))
    ∷ own (Frames (PopLocalFrame Null))
    ∷ own (Frames (PopLocalFrame Null))
    ∷ [])
    rule.BadFrame breach.NoFrame
    (known 3 (HasFrame (thread 1)) false (Some 2) (Some 1) ∷ [])

-- ---- rule 16: the module of class 16 is granted nothing

abbrev pub refused : Type 0
refused = TellsUnder (two_modules Deny)
    (attach 1 ∷ own (Vm (LoadLibrary (codes "lib/Tool") (codes "tool"))) ∷ [])
    rule.NoNativeAccess (breach.AccessRefused 16 Load)
    []

-- ---- rule 17: the native method of class 15 was unlinked

abbrev pub unlinked : Type 0
unlinked = TellsUnder (two_modules Deny)
    (attach 1
    ∷ own (Objects (FindClass (codes "app/Main")))
    ∷ own (Vm (RegisterNatives (local 1 1) (codes "run") (codes "()V")))
    ∷ own (Vm (UnregisterNatives (local 1 1)))
    ∷ own (Vm (NativeEnter (codes "app/Main") (codes "run") (codes "()V")))
    ∷ [])
    rule.NotLinked (breach.NotLinked 15 1)
    (known 4 (IsLinked 15 1) false (Some 3) (Some 2) ∷ [])
