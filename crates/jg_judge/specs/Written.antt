-- The question that a call of the written machine is: the row of its function, and its operands.
use Rattle.std.specs.Prelude.{ℕ, ℤ, pos, ◌<◌, ◌≡◌, Bool, true, not, List, [], ◌∷◌, Option, Some, None, length}
use Rattle.std.specs.List.{find, list_all}
use Rattle.std.specs.Option.{is_some, unwrap_or}
use Rattle.std.specs.Str.{bytes_eq}
use Rattle.jg_words.specs.declared.thread.EnvId.{EnvId}
use Rattle.jg_words.specs.declared.object.FieldId.{FieldId}
use Rattle.jg_words.specs.declared.object.Primitive.{Primitive}
use Rattle.jg_words.specs.declared.object.Primitive.TheVariants.{Char}
use Rattle.jg_words.specs.declared.reference.Ref.{Ref}
use Rattle.jg_words.specs.declared.fun.Fun.{Fun}
use Rattle.jg_words.specs.declared.call.Call.{Call}
use Rattle.jg_words.specs.declared.call.Call.TheVariants.{Vm, Refs, Frames, Exceptions, Objects, Strings, Arrays, Monitors, Buffers}
use Rattle.jg_words.specs.declared.call.vm.VmCall.{VmCall}
use Rattle.jg_words.specs.declared.call.vm.VmCall.TheVariants.{AttachCurrentThread, DetachCurrentThread, GetEnv, NativeEnter, NativeLeave, LoadLibrary, RegisterNatives, UnregisterNatives, Collect}
use Rattle.jg_words.specs.declared.call.refs.RefsCall.{RefsCall}
use Rattle.jg_words.specs.declared.call.refs.RefsCall.TheVariants.{NewLocalRef, NewGlobalRef, NewWeakGlobalRef, DeleteLocalRef, DeleteGlobalRef, DeleteWeakGlobalRef, IsSameObject, GetObjectRefType}
use Rattle.jg_words.specs.declared.call.frames.FramesCall.{FramesCall}
use Rattle.jg_words.specs.declared.call.frames.FramesCall.TheVariants.{PushLocalFrame, PopLocalFrame, EnsureLocalCapacity}
use Rattle.jg_words.specs.declared.call.exceptions.ExceptionsCall.{ExceptionsCall}
use Rattle.jg_words.specs.declared.call.exceptions.ExceptionsCall.TheVariants.{Throw, ExceptionOccurred, ExceptionDescribe, ExceptionClear, ExceptionCheck}
use Rattle.jg_words.specs.declared.call.objects.ObjectsCall.{ObjectsCall}
use Rattle.jg_words.specs.declared.call.objects.ObjectsCall.TheVariants.{FindClass, GetObjectClass, IsInstanceOf, AllocObject, GetFieldID, GetField, GetObjectField, SetField, SetObjectField}
use Rattle.jg_words.specs.declared.call.strings.StringsCall.{StringsCall}
use Rattle.jg_words.specs.declared.call.strings.StringsCall.TheVariants.{NewString, NewStringUTF, GetStringLength, GetStringUTFLength, GetStringRegion}
use Rattle.jg_words.specs.declared.call.arrays.ArraysCall.{ArraysCall}
use Rattle.jg_words.specs.declared.call.arrays.ArraysCall.TheVariants.{NewArray, GetArrayLength, GetArrayRegion, SetArrayRegion, NewObjectArray, GetObjectArrayElement, SetObjectArrayElement}
use Rattle.jg_words.specs.declared.call.monitors.MonitorsCall.{MonitorsCall}
use Rattle.jg_words.specs.declared.call.monitors.MonitorsCall.TheVariants.{MonitorEnter, MonitorExit}
use Rattle.jg_words.specs.declared.call.buffers.BuffersCall.{BuffersCall}
use Rattle.jg_words.specs.declared.call.buffers.BuffersCall.TheVariants.{GetArrayElements, ReleaseArrayElements, GetStringChars, ReleaseStringChars, GetStringUTFChars, ReleaseStringUTFChars, GetPrimitiveArrayCritical, ReleasePrimitiveArrayCritical, GetStringCritical, ReleaseStringCritical, BufferRead, BufferWrite}
use Rattle.jg_words.specs.Call.{fun_of}
use Rattle.jg_words.specs.Fun.{name_of}
use Rattle.jg_table_heap.specs.Reading.{decoded}
use Rattle.jg_policy.specs.Stated.{StatedSetup, class_count}
use Rattle.jg_policy.specs.Classes.{class_named}
use Rattle.jg_rules.specs.Parts.{Parts}
use Rattle.jg_rules.specs.Names.{class_of, class_meant, native_meant}
use Rattle.jg_rules.specs.Numbers.{is_value_of}
use Rattle.jg_rules.specs.Rules as rules
use Rattle.jg_rules.specs.Rules.{field_of_another}
use Rattle.jg_rows.specs.declared.row.Section.TheVariants.{Own}
use Rattle.jg_rows.specs.declared.row.Since.TheVariants.{Own as OwnVersion}
use Rattle.jg_rows.specs.declared.row.Passes.TheVariants.{Usual}
use Rattle.jg_rows.specs.declared.row.Throws.TheVariants.{Never}
use Rattle.jg_rows.specs.declared.row.Runs.TheVariants.{Quiet}
use Rattle.jg_rows.specs.declared.row.Effect.TheVariants.{Nothing}
use Rattle.jg_rows.specs.Columns.{Columns}
use Rattle.jg_rows.specs.Table.{functions}
use Rattle.jg_judge.specs.declared.argument.Argument.{Argument}
use Rattle.jg_judge.specs.declared.argument.Argument.TheVariants.{Reference, Buffer, Number, Value, Id, Class, Native, Name, List as ListOf}
use Rattle.jg_judge.specs.declared.argument.Bounds.{Bounds}
use Rattle.jg_judge.specs.Broken.{verdict}
use Rattle.jg_judge.specs.Suits.{suits}

-- what the written machine bounds
abbrev pub written_bounds : Bounds
written_bounds = record { capacity = pos 65535; length = pos 1000000; items = pos 1000 }

abbrev no_row : Columns
no_row = record {
  section = Own;
  name = [];
  since = OwnVersion;
  takes = [];
  takes_env = true;
  passes = Usual;
  throws = Never;
  runs = Quiet;
  effect = Nothing;
}

-- the row of the function's name
abbrev pub row_for : Fun → Columns
row_for fun = unwrap_or (find (λ row. bytes_eq row.name (name_of fun)) functions) no_row

-- a list, where each item passes the test
abbrev items : (ℤ → Bool) → List ℤ → Argument
items test xs = ListOf (length xs) (list_all test xs)

-- the field's ID fits where no rule on fields is broken
abbrev field : StatedSetup → Parts → ℕ → Option Primitive → Ref → FieldId → Argument
field s p t wanted r f = Id (not (field_of_another s p t wanted r f))

abbrev pub vm_arguments : StatedSetup → Parts → ℕ → VmCall → List Argument
vm_arguments s p t AttachCurrentThread = []
vm_arguments s p t DetachCurrentThread = []
vm_arguments s p t GetEnv = []
vm_arguments s p t (NativeEnter class method signature) =
    Class (class_named s class) ∷ Native (native_meant s (class_named s class) method signature) ∷ []
vm_arguments s p t (NativeLeave kept) = Reference kept ∷ []
vm_arguments s p t (LoadLibrary class library) = Class (class_named s class) ∷ Name ∷ []
vm_arguments s p t (RegisterNatives class method signature) =
    Reference class ∷ Native (native_meant s (class_meant s p t class) method signature) ∷ []
vm_arguments s p t (UnregisterNatives class) = Reference class ∷ []
vm_arguments s p t Collect = []

abbrev pub refs_arguments : RefsCall → List Argument
refs_arguments (NewLocalRef r) = Reference r ∷ []
refs_arguments (NewGlobalRef r) = Reference r ∷ []
refs_arguments (NewWeakGlobalRef r) = Reference r ∷ []
refs_arguments (DeleteLocalRef r) = Reference r ∷ []
refs_arguments (DeleteGlobalRef r) = Reference r ∷ []
refs_arguments (DeleteWeakGlobalRef r) = Reference r ∷ []
refs_arguments (IsSameObject r u) = Reference r ∷ Reference u ∷ []
refs_arguments (GetObjectRefType r) = Reference r ∷ []

abbrev pub frames_arguments : FramesCall → List Argument
frames_arguments (PushLocalFrame capacity) = Number capacity ∷ []
frames_arguments (PopLocalFrame r) = Reference r ∷ []
frames_arguments (EnsureLocalCapacity capacity) = Number capacity ∷ []

abbrev pub exceptions_arguments : ExceptionsCall → List Argument
exceptions_arguments (Throw r) = Reference r ∷ []
exceptions_arguments ExceptionOccurred = []
exceptions_arguments ExceptionDescribe = []
exceptions_arguments ExceptionClear = []
exceptions_arguments ExceptionCheck = []

abbrev pub objects_arguments : StatedSetup → Parts → ℕ → ObjectsCall → List Argument
objects_arguments s p t (FindClass name) = Name ∷ []
objects_arguments s p t (GetObjectClass r) = Reference r ∷ []
objects_arguments s p t (IsInstanceOf r class) = Reference r ∷ Reference class ∷ []
objects_arguments s p t (AllocObject class) = Reference class ∷ []
objects_arguments s p t (GetFieldID class name signature) = Reference class ∷ Name ∷ Name ∷ []
objects_arguments s p t (GetField primitive r f) = Reference r ∷ field s p t (Some primitive) r f ∷ []
objects_arguments s p t (GetObjectField r f) = Reference r ∷ field s p t None r f ∷ []
objects_arguments s p t (SetField primitive r f value) =
    Reference r ∷ field s p t (Some primitive) r f ∷ Value value ∷ []
objects_arguments s p t (SetObjectField r f value) = Reference r ∷ field s p t None r f ∷ Reference value ∷ []

abbrev pub strings_arguments : StringsCall → List Argument
strings_arguments (NewString units) = items (is_value_of Char) units ∷ []
strings_arguments (NewStringUTF bytes) = ListOf (length bytes) (is_some (decoded bytes)) ∷ []
strings_arguments (GetStringLength r) = Reference r ∷ []
strings_arguments (GetStringUTFLength r) = Reference r ∷ []
strings_arguments (GetStringRegion r start n) = Reference r ∷ Number start ∷ Number n ∷ []

abbrev pub arrays_arguments : ArraysCall → List Argument
arrays_arguments (NewArray element n) = Number n ∷ []
arrays_arguments (GetArrayLength r) = Reference r ∷ []
arrays_arguments (GetArrayRegion element r start n) = Reference r ∷ Number start ∷ Number n ∷ []
arrays_arguments (SetArrayRegion element r start values) =
    Reference r ∷ Number start ∷ items (is_value_of element) values ∷ []
arrays_arguments (NewObjectArray n class fill) = Number n ∷ Reference class ∷ Reference fill ∷ []
arrays_arguments (GetObjectArrayElement r index) = Reference r ∷ Number index ∷ []
arrays_arguments (SetObjectArrayElement r index value) = Reference r ∷ Number index ∷ Reference value ∷ []

abbrev pub monitors_arguments : MonitorsCall → List Argument
monitors_arguments (MonitorEnter r) = Reference r ∷ []
monitors_arguments (MonitorExit r) = Reference r ∷ []

abbrev pub buffers_arguments : BuffersCall → List Argument
buffers_arguments (GetArrayElements element r) = Reference r ∷ []
buffers_arguments (ReleaseArrayElements element r b mode) = Reference r ∷ Buffer b ∷ Number mode ∷ []
buffers_arguments (GetStringChars r) = Reference r ∷ []
buffers_arguments (ReleaseStringChars r b) = Reference r ∷ Buffer b ∷ []
buffers_arguments (GetStringUTFChars r) = Reference r ∷ []
buffers_arguments (ReleaseStringUTFChars r b) = Reference r ∷ Buffer b ∷ []
buffers_arguments (GetPrimitiveArrayCritical r) = Reference r ∷ []
buffers_arguments (ReleasePrimitiveArrayCritical r b mode) = Reference r ∷ Buffer b ∷ Number mode ∷ []
buffers_arguments (GetStringCritical r) = Reference r ∷ []
buffers_arguments (ReleaseStringCritical r b) = Reference r ∷ Buffer b ∷ []
buffers_arguments (BufferRead b index) = Buffer b ∷ Number index ∷ []
buffers_arguments (BufferWrite b index value) = Buffer b ∷ Number index ∷ Value value ∷ []

-- the operands of the call, as its function's row takes them
abbrev pub arguments_of : StatedSetup → Parts → ℕ → Call → List Argument
arguments_of s p t (Vm call) = vm_arguments s p t call
arguments_of s p t (Refs call) = refs_arguments call
arguments_of s p t (Frames call) = frames_arguments call
arguments_of s p t (Exceptions call) = exceptions_arguments call
arguments_of s p t (Objects call) = objects_arguments s p t call
arguments_of s p t (Strings call) = strings_arguments call
arguments_of s p t (Arrays call) = arrays_arguments call
arguments_of s p t (Monitors call) = monitors_arguments call
arguments_of s p t (Buffers call) = buffers_arguments call

-- the operands of a call are those of its function
-- (proofs/Sorts.antt)
abbrev pub CallsSuit : Type 0
CallsSuit = (s : StatedSetup) (p : Parts) (t : ℕ) (call : Call)
    → suits (row_for (fun_of call)).takes (arguments_of s p t call) ≡ true

-- each object is of a class of the setup, as it is where no machine of its own was told of
abbrev pub AreStated : StatedSetup → Parts → Type 0
AreStated s p = (o : ℕ) → class_of s p o < class_count s

-- the verdict on a call's question is the verdict on the call
-- (proofs/Agreed.antt)
abbrev pub JudgedAsWritten : Type 0
JudgedAsWritten = (s : StatedSetup) (p : Parts) (t : ℕ) (env : Option EnvId) (call : Call) → AreStated s p
    → verdict written_bounds s p t env (row_for (fun_of call)) (arguments_of s p t call) ≡ rules.verdict s p t env call
