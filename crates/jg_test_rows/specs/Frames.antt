-- Rows on frames of local references.
use Rattle.std.specs.Prelude.{pos, negsuc, true, List, [], ◌∷◌}
use Rattle.jg_words.specs.declared.reference.Ref.TheVariants.{Null}
use Rattle.jg_words.specs.declared.value.Value.TheVariants.{Ok as Done, Number as Amount, Truth, Null as NullAnswer, Environment}
use Rattle.jg_words.specs.declared.rule.Rule.TheVariants.{ForeignLocal, DeadReference, BadArgument, BadFrame}
use Rattle.jg_words.specs.declared.call.Call.TheVariants.{Vm, Refs, Frames, Strings}
use Rattle.jg_words.specs.declared.call.vm.VmCall.TheVariants.{AttachCurrentThread, DetachCurrentThread}
use Rattle.jg_words.specs.declared.call.refs.RefsCall.TheVariants.{NewLocalRef, DeleteLocalRef, IsSameObject, GetObjectRefType}
use Rattle.jg_words.specs.declared.call.frames.FramesCall.TheVariants.{PushLocalFrame, PopLocalFrame}
use Rattle.jg_words.specs.declared.call.strings.StringsCall.TheVariants.{NewString, GetStringLength}
use Rattle.jg_test_rows.specs.Lines.{Line, line, bare, env, environment, local, global, gives, hands_out, notices, denies}

-- a result is carried out of its frame; numbers go on after detaching
abbrev pub result_out_of_frame : List Line
result_out_of_frame =
    line 1 bare (Vm AttachCurrentThread) (gives (Environment (environment 1 1)))
    ∷ line 1 (env 1 1) (Frames (PushLocalFrame (pos 16))) (gives Done)
    ∷ line 1 (env 1 1) (Strings (NewString [])) (hands_out (local 1 1) 15)
    ∷ line 1 (env 1 1) (Refs (NewLocalRef (local 1 1))) (hands_out (local 1 2) 15)
    ∷ line 1 (env 1 1) (Frames (PopLocalFrame (local 1 2))) (hands_out (local 1 3) 15)
    ∷ line 1 (env 1 1) (Strings (GetStringLength (local 1 1))) (denies DeadReference)
    ∷ line 1 (env 1 1) (Strings (GetStringLength (local 1 3))) (gives (Amount (pos 0)))
    ∷ line 1 (env 1 1) (Frames (PopLocalFrame Null)) (denies BadFrame)
    ∷ line 1 bare (Vm DetachCurrentThread) (gives Done)
    ∷ line 1 bare (Vm AttachCurrentThread) (gives (Environment (environment 1 2)))
    ∷ line 1 (env 1 2) (Strings (GetStringLength (local 1 3))) (denies DeadReference)
    ∷ line 1 (env 1 2) (Strings (NewString [])) (hands_out (local 1 4) 16)
    ∷ []

-- a capacity is from 0 to 65,535, and a denied push pushes nothing
abbrev pub frame_capacities : List Line
frame_capacities =
    line 1 bare (Vm AttachCurrentThread) (gives (Environment (environment 1 1)))
    ∷ line 1 (env 1 1) (Frames (PushLocalFrame (negsuc 0))) (denies BadArgument)
    ∷ line 1 (env 1 1) (Frames (PushLocalFrame (pos 65536))) (denies BadArgument)
    ∷ line 1 (env 1 1) (Frames (PopLocalFrame Null)) (denies BadFrame)
    ∷ line 1 (env 1 1) (Frames (PushLocalFrame (pos 0))) (gives Done)
    ∷ line 1 (env 1 1) (Frames (PushLocalFrame (pos 65535))) (gives Done)
    ∷ line 1 (env 1 1) (Frames (PopLocalFrame Null)) (gives NullAnswer)
    ∷ line 1 (env 1 1) (Frames (PopLocalFrame Null)) (gives NullAnswer)
    ∷ line 1 (env 1 1) (Frames (PopLocalFrame Null)) (denies BadFrame)
    ∷ []

-- each thread pops its own frames alone; an earlier rule on the operand is named before the missing frame
abbrev pub pop_without_frame : List Line
pop_without_frame =
    line 1 bare (Vm AttachCurrentThread) (gives (Environment (environment 1 1)))
    ∷ line 2 bare (Vm AttachCurrentThread) (gives (Environment (environment 2 1)))
    ∷ line 2 (env 2 1) (Frames (PushLocalFrame (pos 1))) (gives Done)
    ∷ line 1 (env 1 1) (Strings (NewString [])) (hands_out (local 1 1) 15)
    ∷ line 1 (env 1 1) (Frames (PopLocalFrame Null)) (denies BadFrame)
    ∷ line 1 (env 1 1) (Frames (PopLocalFrame (local 1 1))) (denies BadFrame)
    ∷ line 1 (env 1 1) (Frames (PopLocalFrame (local 1 9))) (denies DeadReference)
    ∷ line 1 (env 1 1) (Frames (PopLocalFrame (global 1 1))) (denies DeadReference)
    ∷ line 1 (env 1 1) (Frames (PopLocalFrame (local 2 1))) (denies ForeignLocal)
    ∷ line 1 (env 1 1) (Refs (GetObjectRefType (local 1 1))) (gives (Amount (pos 1)))
    ∷ line 2 (env 2 1) (Frames (PopLocalFrame Null)) (gives NullAnswer)
    ∷ line 2 (env 2 1) (Frames (PopLocalFrame Null)) (denies BadFrame)
    ∷ []

-- a denied pop, for its dead operand, pops nothing
abbrev pub pop_of_dead_result : List Line
pop_of_dead_result =
    line 1 bare (Vm AttachCurrentThread) (gives (Environment (environment 1 1)))
    ∷ line 1 (env 1 1) (Frames (PushLocalFrame (pos 1))) (gives Done)
    ∷ line 1 (env 1 1) (Strings (NewString [])) (hands_out (local 1 1) 15)
    ∷ line 1 (env 1 1) (Strings (NewString [])) (notices (local 1 2) 16)
    ∷ line 1 (env 1 1) (Refs (DeleteLocalRef (local 1 1))) (gives Done)
    ∷ line 1 (env 1 1) (Frames (PopLocalFrame (local 1 1))) (denies DeadReference)
    ∷ line 1 (env 1 1) (Refs (GetObjectRefType (local 1 2))) (gives (Amount (pos 1)))
    ∷ line 1 (env 1 1) (Frames (PopLocalFrame Null)) (gives NullAnswer)
    ∷ line 1 (env 1 1) (Refs (GetObjectRefType (local 1 2))) (gives (Amount (pos 0)))
    ∷ []

-- a reference of the frame below stays live in the frame above, may be its result, and outlives it
abbrev pub result_of_frame_below : List Line
result_of_frame_below =
    line 1 bare (Vm AttachCurrentThread) (gives (Environment (environment 1 1)))
    ∷ line 1 (env 1 1) (Strings (NewString (pos 1 ∷ pos 2 ∷ pos 3 ∷ []))) (hands_out (local 1 1) 15)
    ∷ line 1 (env 1 1) (Frames (PushLocalFrame (pos 1))) (gives Done)
    ∷ line 1 (env 1 1) (Refs (NewLocalRef (local 1 1))) (hands_out (local 1 2) 15)
    ∷ line 1 (env 1 1) (Frames (PopLocalFrame (local 1 1))) (hands_out (local 1 3) 15)
    ∷ line 1 (env 1 1) (Refs (GetObjectRefType (local 1 2))) (gives (Amount (pos 0)))
    ∷ line 1 (env 1 1) (Refs (IsSameObject (local 1 1) (local 1 3))) (gives (Truth true))
    ∷ line 1 (env 1 1) (Refs (DeleteLocalRef (local 1 1))) (gives Done)
    ∷ line 1 (env 1 1) (Strings (GetStringLength (local 1 3))) (gives (Amount (pos 3)))
    ∷ []

-- a reference of an outer frame may be deleted in the inner one, and stays dead; a result goes up one frame at a time
abbrev pub frames_within_frames : List Line
frames_within_frames =
    line 1 bare (Vm AttachCurrentThread) (gives (Environment (environment 1 1)))
    ∷ line 1 (env 1 1) (Frames (PushLocalFrame (pos 1))) (gives Done)
    ∷ line 1 (env 1 1) (Strings (NewString [])) (hands_out (local 1 1) 15)
    ∷ line 1 (env 1 1) (Frames (PushLocalFrame (pos 1))) (gives Done)
    ∷ line 1 (env 1 1) (Refs (NewLocalRef (local 1 1))) (hands_out (local 1 2) 15)
    ∷ line 1 (env 1 1) (Refs (DeleteLocalRef (local 1 1))) (gives Done)
    ∷ line 1 (env 1 1) (Frames (PopLocalFrame (local 1 2))) (hands_out (local 1 3) 15)
    ∷ line 1 (env 1 1) (Refs (GetObjectRefType (local 1 1))) (gives (Amount (pos 0)))
    ∷ line 1 (env 1 1) (Refs (GetObjectRefType (local 1 3))) (gives (Amount (pos 1)))
    ∷ line 1 (env 1 1) (Frames (PopLocalFrame Null)) (gives NullAnswer)
    ∷ line 1 (env 1 1) (Refs (GetObjectRefType (local 1 3))) (gives (Amount (pos 0)))
    ∷ []
