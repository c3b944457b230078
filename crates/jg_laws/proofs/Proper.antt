-- Each call's answer is a proper one.
use Rattle.std.proofs.Common.{ℕ, pos, ◌≡◌, Bool, true, false, length, Option, Some, None, refl}
use Rattle.std.specs.Option.{option_map}
use Rattle.jg_words.specs.declared.thread.Tid.{Tid}
use Rattle.jg_words.specs.declared.value.Value.TheVariants.{Ok as Done}
use Rattle.jg_words.specs.declared.object.FieldId.{FieldId}
use Rattle.jg_words.specs.declared.reference.Kind.TheVariants.{Local, Global, Weak}
use Rattle.jg_words.specs.declared.value.Thrown.{Thrown}
use Rattle.jg_words.specs.declared.call.Call.{Call}
use Rattle.jg_words.specs.declared.call.Call.TheVariants.{Vm, Refs, Frames, Exceptions, Objects, Strings, Arrays, Monitors, Buffers}
use Rattle.jg_words.specs.declared.call.vm.VmCall.TheVariants.{GetEnv, NativeEnter, NativeLeave, RegisterNatives}
use Rattle.jg_words.specs.declared.call.refs.RefsCall.TheVariants.{NewLocalRef, NewGlobalRef, NewWeakGlobalRef}
use Rattle.jg_words.specs.declared.call.frames.FramesCall.TheVariants.{PopLocalFrame}
use Rattle.jg_words.specs.declared.call.exceptions.ExceptionsCall.TheVariants.{Throw, ExceptionOccurred}
use Rattle.jg_words.specs.declared.call.objects.ObjectsCall.TheVariants.{FindClass, GetObjectClass, AllocObject, GetFieldID, GetObjectField}
use Rattle.jg_words.specs.declared.call.strings.StringsCall.TheVariants.{NewString, NewStringUTF, GetStringRegion}
use Rattle.jg_words.specs.declared.call.arrays.ArraysCall.TheVariants.{NewArray, GetArrayRegion, SetArrayRegion, NewObjectArray, GetObjectArrayElement, SetObjectArrayElement}
use Rattle.jg_words.specs.declared.call.monitors.MonitorsCall.TheVariants.{MonitorEnter}
use Rattle.jg_words.specs.Call.{fun_of}
use Rattle.jg_words.specs.Fun.{needs_env}
use Rattle.jg_words.specs.declared.call.buffers.BuffersCall.TheVariants.{GetArrayElements, GetStringChars, GetStringUTFChars, GetPrimitiveArrayCritical, GetStringCritical}
use Rattle.jg_policy.specs.Stated.{StatedSetup}
use Rattle.jg_rules.specs.declared.answer.Answer.{Answer}
use Rattle.jg_rules.specs.Parts.{Parts}
use Rattle.jg_rules.specs.Names.{object_named, the_object, object_count, class_of, length_of, units_of, slot_of, target_in, session, pending, class_meant, native_meant, field_meant}
use Rattle.jg_rules.specs.Effects.{done_by}
use Rattle.jg_laws.specs.Proper.{ProperAnswer}
use Rattle.jg_table_monitors.specs.History as monitors
use Rattle.jg_table_monitors.specs.declared.entering.Entering.{Entering}
use Rattle.jg_table_monitors.specs.declared.entering.Entering.TheVariants.{Entered, Busy}
use Rattle.jg_policy.specs.declared.access.Operation.{Operation}
use Rattle.jg_policy.specs.declared.access.Operation.TheVariants.{Link}
use Rattle.jg_rules.specs.Answers.{answer, entered, handed, present_env, plain, saying, admitted, unless_pending, registered, class_found, field_found, field_value, or_outside, is_outside}
use Rattle.jg_policy.specs.Classes.{class_named}
use Rattle.jg_table_heap.specs.Reading.{natural}
use Rattle.jg_words.specs.declared.value.Thrown.TheVariants.{ArrayIndexOutOfBounds, StringIndexOutOfBounds}

local_proper : (s : StatedSetup) (p : Parts) (t : Tid) (call : Call) (found : Option ℕ) → needs_env (fun_of call) ≡ true
    → ProperAnswer s p t call (handed p t Local found)
local_proper s p t call None env = tt
local_proper s p t call (Some o) env = (env, refl, refl)

global_proper : (s : StatedSetup) (p : Parts) (t : Tid) (call : Call) (found : Option ℕ) → needs_env (fun_of call) ≡ true → done_by s t.0 call p ≡ p
    → ProperAnswer s p t call (handed p t Global found)
global_proper s p t call None env none = tt
global_proper s p t call (Some o) env none = (env, refl, refl, none, refl)

weak_proper : (s : StatedSetup) (p : Parts) (t : Tid) (call : Call) (found : Option ℕ) → needs_env (fun_of call) ≡ true → done_by s t.0 call p ≡ p
    → ProperAnswer s p t call (handed p t Weak found)
weak_proper s p t call None env none = tt
weak_proper s p t call (Some o) env none = (env, refl, refl, none, refl)

enter_proper : (s : StatedSetup) (p : Parts) (t : Tid) (call : Call) (e : Entering) → needs_env (fun_of call) ≡ true
    → ProperAnswer s p t call (plain (entered e))
enter_proper s p t call Entered env = tt
enter_proper s p t call Busy env = (env, refl)

env_proper : (s : StatedSetup) (p : Parts) (t : Tid) (call : Call) (n : Option ℕ) → ProperAnswer s p t call (plain (present_env t n))
env_proper s p t call None = tt
env_proper s p t call (Some n) = tt

found_proper : (s : StatedSetup) (p : Parts) (t : Tid) (call : Call) (found : Option ℕ) → needs_env (fun_of call) ≡ true
    → ProperAnswer s p t call (class_found s p t found)
found_proper s p t call None env = (env, refl, refl)
found_proper s p t call (Some class) env = local_proper s p t call (Some class) env

outside_proper : (s : StatedSetup) (p : Parts) (t : Tid) (call : Call) (kind : Thrown) (b : Bool) (a : Answer) → needs_env (fun_of call) ≡ true
    → ProperAnswer s p t call a
    → ProperAnswer s p t call (or_outside s p kind b a)
outside_proper s p t call kind true a env own = (env, refl, refl)
outside_proper s p t call kind false a env own = own

entered_proper : (s : StatedSetup) (p : Parts) (t : Tid) (call : Call) (operation : Operation) (class found : Option ℕ)
    → needs_env (fun_of call) ≡ true → ProperAnswer s p t call (admitted s p operation class (handed p t Local found))
entered_proper s p t call operation class None env = tt
entered_proper s p t call operation class (Some o) env = (env, refl, refl)

left_proper : (s : StatedSetup) (p : Parts) (t : Tid) (call : Call) (exception found : Option ℕ) → needs_env (fun_of call) ≡ true
    → ProperAnswer s p t call (unless_pending exception (handed p t Local found))
left_proper s p t call None found env = local_proper s p t call found env
left_proper s p t call (Some exception) found env = tt

registered_proper : (s : StatedSetup) (p : Parts) (t : Tid) (call : Call) (class native : Option ℕ) → needs_env (fun_of call) ≡ true
    → ProperAnswer s p t call (registered s p class native)
registered_proper s p t call class None env = (env, refl, refl)
registered_proper s p t call class (Some native) env = tt

field_proper : (s : StatedSetup) (p : Parts) (t : Tid) (call : Call) (found : Option FieldId) → needs_env (fun_of call) ≡ true
    → ProperAnswer s p t call (field_found s p found)
field_proper s p t call None env = (env, refl, refl)
field_proper s p t call (Some field) env = tt

raised_proper : (s : StatedSetup) (p : Parts) (t : Tid) (call : Call) (found : Option ℕ)
    → needs_env (fun_of call) ≡ true → ProperAnswer s p t call (saying Done (option_map (λ o. record { 0 = o }) found))
raised_proper s p t call None env = tt
raised_proper s p t call (Some o) env = env

pub proper : (s : StatedSetup) (p : Parts) (t : Tid) (call : Call) → ProperAnswer s p t call (answer s p t call)
proper s p t (Vm GetEnv) = env_proper s p t (Vm GetEnv) (session p t.0)
proper s p t (Vm (NativeEnter class method signature)) =
    entered_proper s p t (Vm (NativeEnter class method signature)) Link (class_named s class) (class_named s class) refl
proper s p t (Vm (NativeLeave kept)) = left_proper s p t (Vm (NativeLeave kept)) (pending p t.0) (object_named p t.0 kept) refl
proper s p t (Vm (RegisterNatives class method signature)) =
    registered_proper s p t (Vm (RegisterNatives class method signature)) (class_meant s p t.0 class)
    (native_meant s (class_meant s p t.0 class) method signature) refl
proper s p t (Refs (NewLocalRef r)) = local_proper s p t (Refs (NewLocalRef r)) (object_named p t.0 r) refl
proper s p t (Refs (NewGlobalRef r)) = global_proper s p t (Refs (NewGlobalRef r)) (object_named p t.0 r) refl refl
proper s p t (Refs (NewWeakGlobalRef r)) = weak_proper s p t (Refs (NewWeakGlobalRef r)) (object_named p t.0 r) refl refl
proper s p t (Frames (PopLocalFrame r)) = local_proper s p t (Frames (PopLocalFrame r)) (object_named p t.0 r) refl
proper s p t (Exceptions (Throw r)) = raised_proper s p t (Exceptions (Throw r)) (object_named p t.0 r) refl
proper s p t (Exceptions ExceptionOccurred) = local_proper s p t (Exceptions ExceptionOccurred) (pending p t.0) refl
proper s p t (Objects (FindClass name)) = found_proper s p t (Objects (FindClass name)) (class_named s name) refl
proper s p t (Objects (GetObjectClass r)) = local_proper s p t (Objects (GetObjectClass r)) (Some (class_of s p (the_object p t.0 r))) refl
proper s p t (Objects (AllocObject class)) = local_proper s p t (Objects (AllocObject class)) (Some (object_count s p)) refl
proper s p t (Objects (GetFieldID class field signature)) =
    field_proper s p t (Objects (GetFieldID class field signature)) (field_meant s (class_meant s p t.0 class) field signature) refl
proper s p t (Objects (GetObjectField r field)) =
    local_proper s p t (Objects (GetObjectField r field)) (target_in (field_value s p (the_object p t.0 r) field)) refl
proper s p t (Strings (NewString units)) = local_proper s p t (Strings (NewString units)) (Some (object_count s p)) refl
proper s p t (Strings (NewStringUTF bytes)) = local_proper s p t (Strings (NewStringUTF bytes)) (Some (object_count s p)) refl
proper s p t (Strings (GetStringRegion r start n)) =
    outside_proper s p t (Strings (GetStringRegion r start n)) StringIndexOutOfBounds (is_outside start n (length (units_of s p (the_object p t.0 r)))) _ refl
    tt
proper s p t (Arrays (NewArray element n)) = local_proper s p t (Arrays (NewArray element n)) (Some (object_count s p)) refl
proper s p t (Arrays (GetArrayRegion element r start n)) =
    outside_proper s p t (Arrays (GetArrayRegion element r start n)) ArrayIndexOutOfBounds (is_outside start n (length_of s p (the_object p t.0 r))) _ refl tt
proper s p t (Arrays (SetArrayRegion element r start values)) =
    outside_proper s p t (Arrays (SetArrayRegion element r start values)) ArrayIndexOutOfBounds
    (is_outside start (pos (length values)) (length_of s p (the_object p t.0 r))) _ refl tt
proper s p t (Arrays (NewObjectArray n class fill)) = local_proper s p t (Arrays (NewObjectArray n class fill)) (Some (object_count s p)) refl
proper s p t (Arrays (GetObjectArrayElement r index)) =
    outside_proper s p t (Arrays (GetObjectArrayElement r index)) ArrayIndexOutOfBounds (is_outside index (pos 1) (length_of s p (the_object p t.0 r))) _ refl
    (local_proper s p t (Arrays (GetObjectArrayElement r index)) (target_in (slot_of s p (the_object p t.0 r) (natural index))) refl)
proper s p t (Arrays (SetObjectArrayElement r index value)) =
    outside_proper s p t (Arrays (SetObjectArrayElement r index value)) ArrayIndexOutOfBounds (is_outside index (pos 1) (length_of s p (the_object p t.0 r))) _
    refl tt
proper s p t (Monitors (MonitorEnter r)) =
    enter_proper s p t (Monitors (MonitorEnter r)) (monitors.entering t.0 (monitors.owner p.monitors (the_object p t.0 r))) refl
proper s p t (Buffers (GetArrayElements element r)) = (refl, refl, refl, refl)
proper s p t (Buffers (GetStringChars r)) = (refl, refl, refl, refl)
proper s p t (Buffers (GetStringUTFChars r)) = (refl, refl, refl, refl)
proper s p t (Buffers (GetPrimitiveArrayCritical r)) = (refl, refl, refl, refl)
proper s p t (Buffers (GetStringCritical r)) = (refl, refl, refl, refl)
proper s p t call = tt
