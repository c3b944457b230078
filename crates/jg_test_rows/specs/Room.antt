-- Rows on the room that frames have for local references.
use Rattle.std.specs.Prelude.{pos, negsuc, List, [], ◌∷◌, codes}
use Rattle.jg_words.specs.declared.value.Value.TheVariants.{Ok as Done, Number as Amount, Environment}
use Rattle.jg_words.specs.declared.value.Thrown.TheVariants.{NoClassDefFound}
use Rattle.jg_words.specs.declared.rule.Rule.TheVariants.{BadArgument, Pending}
use Rattle.jg_words.specs.declared.call.Call.TheVariants.{Vm, Refs, Frames, Exceptions, Objects, Strings}
use Rattle.jg_words.specs.declared.call.vm.VmCall.TheVariants.{AttachCurrentThread, NativeEnter, NativeLeave, RegisterNatives}
use Rattle.jg_words.specs.declared.call.refs.RefsCall.TheVariants.{NewLocalRef, DeleteLocalRef}
use Rattle.jg_words.specs.declared.call.frames.FramesCall.TheVariants.{PushLocalFrame, PopLocalFrame, EnsureLocalCapacity}
use Rattle.jg_words.specs.declared.call.exceptions.ExceptionsCall.TheVariants.{ExceptionClear}
use Rattle.jg_words.specs.declared.call.objects.ObjectsCall.TheVariants.{FindClass}
use Rattle.jg_words.specs.declared.call.strings.StringsCall.TheVariants.{NewString}
use Rattle.jg_test_rows.specs.Lines.{Line, line, bare, env, environment, local, gives, hands_out, notices, throws, denies}

-- a frame has room for what it is pushed for, or for so many more as are asked for in it, beside what it holds then;
-- what is handed out beyond that is noticed
abbrev pub room_of_frames : List Line
room_of_frames =
    line 1 bare (Vm AttachCurrentThread) (gives (Environment (environment 1 1)))
    ∷ line 1 (env 1 1) (Frames (PushLocalFrame (pos 1))) (gives Done)
    ∷ line 1 (env 1 1) (Strings (NewString [])) (hands_out (local 1 1) 15)
    ∷ line 1 (env 1 1) (Strings (NewString [])) (notices (local 1 2) 16)
    ∷ line 1 (env 1 1) (Refs (DeleteLocalRef (local 1 1))) (gives Done)
    ∷ line 1 (env 1 1) (Refs (NewLocalRef (local 1 2))) (notices (local 1 3) 16)
    ∷ line 1 (env 1 1) (Frames (EnsureLocalCapacity (pos 1))) (gives (Amount (pos 0)))
    ∷ line 1 (env 1 1) (Refs (NewLocalRef (local 1 2))) (hands_out (local 1 4) 16)
    ∷ line 1 (env 1 1) (Refs (NewLocalRef (local 1 2))) (notices (local 1 5) 16)
    ∷ line 1 (env 1 1) (Frames (EnsureLocalCapacity (negsuc 0))) (denies BadArgument)
    ∷ line 1 (env 1 1) (Frames (PopLocalFrame (local 1 2))) (hands_out (local 1 6) 16)
    ∷ line 1 (env 1 1) (Frames (PushLocalFrame (pos 0))) (gives Done)
    ∷ line 1 (env 1 1) (Refs (NewLocalRef (local 1 6))) (notices (local 1 7) 16)
    ∷ line 1 (env 1 1) (Frames (PushLocalFrame (pos 1))) (gives Done)
    ∷ line 1 (env 1 1) (Refs (NewLocalRef (local 1 6))) (hands_out (local 1 8) 16)
    ∷ []

-- native code that asks for no room has room for 16 local references
abbrev pub room_of_sixteen : List Line
room_of_sixteen =
    line 1 bare (Vm AttachCurrentThread) (gives (Environment (environment 1 1)))
    ∷ line 1 (env 1 1) (Strings (NewString [])) (hands_out (local 1 1) 15)
    ∷ line 1 (env 1 1) (Strings (NewString [])) (hands_out (local 1 2) 16)
    ∷ line 1 (env 1 1) (Strings (NewString [])) (hands_out (local 1 3) 17)
    ∷ line 1 (env 1 1) (Strings (NewString [])) (hands_out (local 1 4) 18)
    ∷ line 1 (env 1 1) (Strings (NewString [])) (hands_out (local 1 5) 19)
    ∷ line 1 (env 1 1) (Strings (NewString [])) (hands_out (local 1 6) 20)
    ∷ line 1 (env 1 1) (Strings (NewString [])) (hands_out (local 1 7) 21)
    ∷ line 1 (env 1 1) (Strings (NewString [])) (hands_out (local 1 8) 22)
    ∷ line 1 (env 1 1) (Strings (NewString [])) (hands_out (local 1 9) 23)
    ∷ line 1 (env 1 1) (Strings (NewString [])) (hands_out (local 1 10) 24)
    ∷ line 1 (env 1 1) (Strings (NewString [])) (hands_out (local 1 11) 25)
    ∷ line 1 (env 1 1) (Strings (NewString [])) (hands_out (local 1 12) 26)
    ∷ line 1 (env 1 1) (Strings (NewString [])) (hands_out (local 1 13) 27)
    ∷ line 1 (env 1 1) (Strings (NewString [])) (hands_out (local 1 14) 28)
    ∷ line 1 (env 1 1) (Strings (NewString [])) (hands_out (local 1 15) 29)
    ∷ line 1 (env 1 1) (Strings (NewString [])) (hands_out (local 1 16) 30)
    ∷ line 1 (env 1 1) (Strings (NewString [])) (notices (local 1 17) 31)
    ∷ []

-- room that is asked for is the present frame's alone, and stays while others are pushed and popped above it
abbrev pub room_asked_below : List Line
room_asked_below =
    line 1 bare (Vm AttachCurrentThread) (gives (Environment (environment 1 1)))
    ∷ line 1 (env 1 1) (Frames (PushLocalFrame (pos 1))) (gives Done)
    ∷ line 1 (env 1 1) (Strings (NewString [])) (hands_out (local 1 1) 15)
    ∷ line 1 (env 1 1) (Frames (EnsureLocalCapacity (pos 2))) (gives (Amount (pos 0)))
    ∷ line 1 (env 1 1) (Frames (PushLocalFrame (pos 1))) (gives Done)
    ∷ line 1 (env 1 1) (Refs (NewLocalRef (local 1 1))) (hands_out (local 1 2) 15)
    ∷ line 1 (env 1 1) (Refs (NewLocalRef (local 1 1))) (notices (local 1 3) 15)
    ∷ line 1 (env 1 1) (Frames (PopLocalFrame (local 1 2))) (hands_out (local 1 4) 15)
    ∷ line 1 (env 1 1) (Refs (NewLocalRef (local 1 1))) (hands_out (local 1 5) 15)
    ∷ line 1 (env 1 1) (Frames (EnsureLocalCapacity (pos 0))) (gives (Amount (pos 0)))
    ∷ line 1 (env 1 1) (Refs (NewLocalRef (local 1 1))) (notices (local 1 6) 15)
    ∷ line 1 (env 1 1) (Frames (EnsureLocalCapacity (pos 1))) (gives (Amount (pos 0)))
    ∷ line 1 (env 1 1) (Refs (NewLocalRef (local 1 1))) (hands_out (local 1 7) 15)
    ∷ []

-- a reference that is deleted makes room in its own frame, which need not be the newest; one that is handed up a
-- frame is held there
abbrev pub deleted_in_an_outer_frame : List Line
deleted_in_an_outer_frame =
    line 1 bare (Vm AttachCurrentThread) (gives (Environment (environment 1 1)))
    ∷ line 1 (env 1 1) (Frames (PushLocalFrame (pos 1))) (gives Done)
    ∷ line 1 (env 1 1) (Strings (NewString [])) (hands_out (local 1 1) 15)
    ∷ line 1 (env 1 1) (Frames (PushLocalFrame (pos 1))) (gives Done)
    ∷ line 1 (env 1 1) (Refs (NewLocalRef (local 1 1))) (hands_out (local 1 2) 15)
    ∷ line 1 (env 1 1) (Refs (DeleteLocalRef (local 1 1))) (gives Done)
    ∷ line 1 (env 1 1) (Refs (NewLocalRef (local 1 2))) (notices (local 1 3) 15)
    ∷ line 1 (env 1 1) (Frames (PopLocalFrame (local 1 3))) (hands_out (local 1 4) 15)
    ∷ line 1 (env 1 1) (Refs (NewLocalRef (local 1 4))) (notices (local 1 5) 15)
    ∷ line 1 (env 1 1) (Frames (PopLocalFrame (local 1 4))) (hands_out (local 1 6) 15)
    ∷ line 1 (env 1 1) (Refs (NewLocalRef (local 1 6))) (hands_out (local 1 7) 15)
    ∷ []

-- a capacity that is asked for is from 0 to 65,535; with an exception pending none is
abbrev pub capacities_asked : List Line
capacities_asked =
    line 1 bare (Vm AttachCurrentThread) (gives (Environment (environment 1 1)))
    ∷ line 1 (env 1 1) (Frames (EnsureLocalCapacity (pos 65536))) (denies BadArgument)
    ∷ line 1 (env 1 1) (Frames (EnsureLocalCapacity (pos 65535))) (gives (Amount (pos 0)))
    ∷ line 1 (env 1 1) (Frames (EnsureLocalCapacity (pos 0))) (gives (Amount (pos 0)))
    ∷ line 1 (env 1 1) (Objects (FindClass (codes "no/Such"))) (throws NoClassDefFound 15)
    ∷ line 1 (env 1 1) (Frames (EnsureLocalCapacity (pos 1))) (denies Pending)
    ∷ line 1 (env 1 1) (Exceptions ExceptionClear) (gives Done)
    ∷ line 1 (env 1 1) (Frames (EnsureLocalCapacity (pos 1))) (gives (Amount (pos 0)))
    ∷ []

-- a native method has room for 16 of its own; what it returns is handed out in the frame below, whose room is as it
-- was
abbrev pub room_of_natives : List Line
room_of_natives =
    line 1 bare (Vm AttachCurrentThread) (gives (Environment (environment 1 1)))
    ∷ line 1 (env 1 1) (Objects (FindClass (codes "app/Main"))) (hands_out (local 1 1) 15)
    ∷ line 1 (env 1 1) (Vm (RegisterNatives (local 1 1) (codes "run") (codes "()V"))) (gives Done)
    ∷ line 1 (env 1 1) (Frames (PushLocalFrame (pos 1))) (gives Done)
    ∷ line 1 (env 1 1) (Refs (NewLocalRef (local 1 1))) (hands_out (local 1 2) 15)
    ∷ line 1 (env 1 1) (Vm (NativeEnter (codes "app/Main") (codes "run") (codes "()V"))) (hands_out (local 1 3) 15)
    ∷ line 1 (env 1 1) (Frames (PushLocalFrame (pos 0))) (gives Done)
    ∷ line 1 (env 1 1) (Refs (NewLocalRef (local 1 3))) (notices (local 1 4) 15)
    ∷ line 1 (env 1 1) (Frames (EnsureLocalCapacity (pos 1))) (gives (Amount (pos 0)))
    ∷ line 1 (env 1 1) (Refs (NewLocalRef (local 1 3))) (hands_out (local 1 5) 15)
    ∷ line 1 (env 1 1) (Vm (NativeLeave (local 1 3))) (notices (local 1 6) 15)
    ∷ line 1 (env 1 1) (Refs (DeleteLocalRef (local 1 2))) (gives Done)
    ∷ line 1 (env 1 1) (Refs (DeleteLocalRef (local 1 6))) (gives Done)
    ∷ line 1 (env 1 1) (Vm (NativeEnter (codes "app/Main") (codes "run") (codes "()V"))) (hands_out (local 1 7) 15)
    ∷ line 1 (env 1 1) (Vm (NativeLeave (local 1 7))) (hands_out (local 1 8) 15)
    ∷ line 1 (env 1 1) (Frames (PopLocalFrame (local 1 8))) (hands_out (local 1 9) 15)
    ∷ []
