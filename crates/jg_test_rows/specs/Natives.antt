-- Rows on native methods.
use Rattle.std.specs.Prelude.{pos, true, List, [], ◌∷◌, codes}
use Rattle.jg_words.specs.declared.reference.Ref.TheVariants.{Null}
use Rattle.jg_words.specs.declared.value.Value.TheVariants.{Ok as Done, Number as Amount, Truth, Null as NullAnswer, Environment}
use Rattle.jg_words.specs.declared.value.Thrown.TheVariants.{NoClassDefFound, NoSuchMethod}
use Rattle.jg_words.specs.declared.rule.Rule.TheVariants.{BadArgument, BadFrame, ForeignLocal, NotLinked, NullReference, Pending, WrongType}
use Rattle.jg_words.specs.declared.call.Call.TheVariants.{Vm, Refs, Frames, Exceptions, Objects, Strings}
use Rattle.jg_words.specs.declared.call.vm.VmCall.TheVariants.{AttachCurrentThread, DetachCurrentThread, NativeEnter, NativeLeave, RegisterNatives, UnregisterNatives}
use Rattle.jg_words.specs.declared.call.refs.RefsCall.TheVariants.{IsSameObject, GetObjectRefType}
use Rattle.jg_words.specs.declared.call.frames.FramesCall.TheVariants.{PushLocalFrame, PopLocalFrame}
use Rattle.jg_words.specs.declared.call.exceptions.ExceptionsCall.TheVariants.{ExceptionClear, ExceptionCheck}
use Rattle.jg_words.specs.declared.call.objects.ObjectsCall.TheVariants.{FindClass}
use Rattle.jg_words.specs.declared.call.strings.StringsCall.TheVariants.{NewString}
use Rattle.jg_test_rows.specs.Lines.{Line, line, bare, env, environment, local, gives, hands_out, throws, denies}

-- a frame is popped in the activation alone that pushed it
abbrev pub frame_of_other_activation : List Line
frame_of_other_activation =
    line 1 bare (Vm AttachCurrentThread) (gives (Environment (environment 1 1)))
    ∷ line 1 (env 1 1) (Objects (FindClass (codes "app/Main"))) (hands_out (local 1 1) 15)
    ∷ line 1 (env 1 1) (Vm (NativeEnter (codes "app/Main") (codes "run") (codes "()V"))) (denies NotLinked)
    ∷ line 1 (env 1 1) (Vm (RegisterNatives (local 1 1) (codes "run") (codes "()V"))) (gives Done)
    ∷ line 1 (env 1 1) (Frames (PushLocalFrame (pos 4))) (gives Done)
    ∷ line 1 (env 1 1) (Vm (NativeEnter (codes "app/Main") (codes "run") (codes "()V"))) (hands_out (local 1 2) 15)
    ∷ line 1 (env 1 1) (Frames (PopLocalFrame Null)) (denies BadFrame)
    ∷ line 1 bare (Vm DetachCurrentThread) (denies BadFrame)
    ∷ line 1 (env 1 1) (Vm (NativeLeave (local 1 2))) (hands_out (local 1 3) 15)
    ∷ line 1 (env 1 1) (Refs (IsSameObject (local 1 3) (local 1 1))) (gives (Truth true))
    ∷ line 1 (env 1 1) (Frames (PopLocalFrame Null)) (gives NullAnswer)
    ∷ line 1 (env 1 1) (Refs (GetObjectRefType (local 1 3))) (gives (Amount (pos 0)))
    ∷ line 1 (env 1 1) (Vm (NativeLeave Null)) (denies BadFrame)
    ∷ []

-- the return of a native method ends the references of all its frames
abbrev pub leave_cuts_frames : List Line
leave_cuts_frames =
    line 1 bare (Vm AttachCurrentThread) (gives (Environment (environment 1 1)))
    ∷ line 1 (env 1 1) (Objects (FindClass (codes "app/Main"))) (hands_out (local 1 1) 15)
    ∷ line 1 (env 1 1) (Vm (RegisterNatives (local 1 1) (codes "run") (codes "()V"))) (gives Done)
    ∷ line 1 (env 1 1) (Vm (NativeEnter (codes "app/Main") (codes "run") (codes "()V"))) (hands_out (local 1 2) 15)
    ∷ line 1 (env 1 1) (Frames (PushLocalFrame (pos 1))) (gives Done)
    ∷ line 1 (env 1 1) (Frames (PushLocalFrame (pos 1))) (gives Done)
    ∷ line 1 (env 1 1) (Strings (NewString (pos 65 ∷ []))) (hands_out (local 1 3) 18)
    ∷ line 1 (env 1 1) (Vm (NativeLeave Null)) (gives NullAnswer)
    ∷ line 1 (env 1 1) (Refs (GetObjectRefType (local 1 2))) (gives (Amount (pos 0)))
    ∷ line 1 (env 1 1) (Refs (GetObjectRefType (local 1 3))) (gives (Amount (pos 0)))
    ∷ line 1 (env 1 1) (Refs (GetObjectRefType (local 1 1))) (gives (Amount (pos 1)))
    ∷ []

-- a frame ends with its activation, also where a later one has its depth
abbrev pub frame_of_earlier_activation : List Line
frame_of_earlier_activation =
    line 1 bare (Vm AttachCurrentThread) (gives (Environment (environment 1 1)))
    ∷ line 1 (env 1 1) (Objects (FindClass (codes "app/Main"))) (hands_out (local 1 1) 15)
    ∷ line 1 (env 1 1) (Vm (RegisterNatives (local 1 1) (codes "run") (codes "()V"))) (gives Done)
    ∷ line 1 (env 1 1) (Vm (NativeEnter (codes "app/Main") (codes "run") (codes "()V"))) (hands_out (local 1 2) 15)
    ∷ line 1 (env 1 1) (Frames (PushLocalFrame (pos 1))) (gives Done)
    ∷ line 1 (env 1 1) (Vm (NativeLeave Null)) (gives NullAnswer)
    ∷ line 1 (env 1 1) (Vm (NativeEnter (codes "app/Main") (codes "run") (codes "()V"))) (hands_out (local 1 3) 15)
    ∷ line 1 (env 1 1) (Frames (PopLocalFrame Null)) (denies BadFrame)
    ∷ line 1 (env 1 1) (Vm (NativeLeave (local 1 3))) (hands_out (local 1 4) 15)
    ∷ line 1 bare (Vm DetachCurrentThread) (gives Done)
    ∷ []

-- a native method that ends with an exception pending returns null, and the exception stays
abbrev pub leave_with_an_exception_pending : List Line
leave_with_an_exception_pending =
    line 1 bare (Vm AttachCurrentThread) (gives (Environment (environment 1 1)))
    ∷ line 1 (env 1 1) (Objects (FindClass (codes "app/Main"))) (hands_out (local 1 1) 15)
    ∷ line 1 (env 1 1) (Vm (RegisterNatives (local 1 1) (codes "run") (codes "()V"))) (gives Done)
    ∷ line 1 (env 1 1) (Vm (NativeEnter (codes "app/Main") (codes "run") (codes "()V"))) (hands_out (local 1 2) 15)
    ∷ line 1 (env 1 1) (Objects (FindClass (codes "no/Such"))) (throws NoClassDefFound 18)
    ∷ line 1 (env 1 1) (Vm (NativeLeave (local 9 9))) (denies ForeignLocal)
    ∷ line 1 (env 1 1) (Vm (NativeLeave (local 1 2))) (gives NullAnswer)
    ∷ line 1 (env 1 1) (Exceptions ExceptionCheck) (gives (Truth true))
    ∷ line 1 (env 1 1) (Vm (NativeEnter (codes "app/Main") (codes "run") (codes "()V"))) (denies Pending)
    ∷ line 1 (env 1 1) (Vm (RegisterNatives (local 1 1) (codes "run") (codes "()V"))) (denies Pending)
    ∷ line 1 (env 1 1) (Vm (NativeLeave Null)) (denies BadFrame)
    ∷ line 1 (env 1 1) (Exceptions ExceptionClear) (gives Done)
    ∷ line 1 (env 1 1) (Refs (GetObjectRefType (local 1 2))) (gives (Amount (pos 0)))
    ∷ []

-- a native method is linked until the natives of its class are unregistered
abbrev pub natives_of_a_class : List Line
natives_of_a_class =
    line 1 bare (Vm AttachCurrentThread) (gives (Environment (environment 1 1)))
    ∷ line 1 (env 1 1) (Objects (FindClass (codes "app/Main"))) (hands_out (local 1 1) 15)
    ∷ line 1 (env 1 1) (Vm (RegisterNatives (local 1 1) (codes "stop") (codes "()V"))) (throws NoSuchMethod 18)
    ∷ line 1 (env 1 1) (Exceptions ExceptionClear) (gives Done)
    ∷ line 1 (env 1 1) (Vm (RegisterNatives (local 1 1) (codes "run") (codes "(I)V"))) (throws NoSuchMethod 19)
    ∷ line 1 (env 1 1) (Exceptions ExceptionClear) (gives Done)
    ∷ line 1 (env 1 1) (Vm (RegisterNatives (local 1 1) (codes "run") (codes "()V"))) (gives Done)
    ∷ line 1 (env 1 1) (Vm (NativeEnter (codes "app/Main") (codes "run") (codes "(I)V"))) (denies NotLinked)
    ∷ line 1 (env 1 1) (Vm (NativeEnter (codes "app/None") (codes "run") (codes "()V"))) (denies BadArgument)
    ∷ line 1 (env 1 1) (Vm (NativeEnter (codes "app/Fault") (codes "run") (codes "()V"))) (denies NotLinked)
    ∷ line 1 (env 1 1) (Vm (UnregisterNatives (local 1 1))) (gives Done)
    ∷ line 1 (env 1 1) (Vm (NativeEnter (codes "app/Main") (codes "run") (codes "()V"))) (denies NotLinked)
    ∷ line 1 (env 1 1) (Vm (RegisterNatives (local 1 1) (codes "run") (codes "()V"))) (gives Done)
    ∷ line 1 (env 1 1) (Vm (NativeEnter (codes "app/Main") (codes "run") (codes "()V"))) (hands_out (local 1 2) 15)
    ∷ line 1 (env 1 1) (Vm (UnregisterNatives Null)) (denies NullReference)
    ∷ line 1 (env 1 1) (Strings (NewString [])) (hands_out (local 1 3) 20)
    ∷ line 1 (env 1 1) (Vm (UnregisterNatives (local 1 3))) (denies WrongType)
    ∷ line 1 (env 1 1) (Vm (RegisterNatives (local 1 3) (codes "run") (codes "()V"))) (denies WrongType)
    ∷ []
