-- What comes of a call's question is what the call implies.
use Rattle.std.proofs.Common.{◌≡◌, ◌∙◌, ℕ, Option, Some, None, refl, ap, if◌then◌else◌}
use Rattle.std.specs.Option.{option_map}
use Rattle.jg_words.specs.declared.thread.Tid.{Tid}
use Rattle.jg_words.specs.declared.object.ObjId.{ObjId}
use Rattle.jg_words.specs.declared.object.Primitive.TheVariants.{Boolean}
use Rattle.jg_words.specs.declared.object.ItemType.TheVariants.{Of}
use Rattle.jg_words.specs.declared.reference.Ref.TheVariants.{Null}
use Rattle.jg_words.specs.declared.call.Call.{Call}
use Rattle.jg_words.specs.declared.call.Call.TheVariants.{Vm, Refs, Frames, Exceptions, Objects, Strings, Arrays, Monitors, Buffers}
use Rattle.jg_words.specs.declared.call.vm.VmCall.TheVariants.{AttachCurrentThread}
use Rattle.jg_words.specs.declared.call.refs.RefsCall.TheVariants.{NewLocalRef}
use Rattle.jg_words.specs.declared.call.frames.FramesCall.TheVariants.{PushLocalFrame}
use Rattle.jg_words.specs.declared.call.exceptions.ExceptionsCall.TheVariants.{Throw}
use Rattle.jg_words.specs.declared.call.objects.ObjectsCall.TheVariants.{FindClass, GetField, SetField}
use Rattle.jg_words.specs.declared.call.strings.StringsCall.TheVariants.{NewString}
use Rattle.jg_words.specs.declared.call.arrays.ArraysCall.TheVariants.{NewArray, GetArrayRegion, SetArrayRegion}
use Rattle.jg_words.specs.declared.call.monitors.MonitorsCall.TheVariants.{MonitorEnter, MonitorExit}
use Rattle.jg_words.specs.declared.call.buffers.BuffersCall.TheVariants.{GetArrayElements, GetStringChars, GetStringUTFChars, GetPrimitiveArrayCritical, GetStringCritical}
use Rattle.jg_words.specs.Call.{fun_of}
use Rattle.jg_table_buffers.specs.declared.family.Family.TheVariants.{Elements, Chars, UtfChars, ArrayCritical, StringCritical}
use Rattle.jg_policy.specs.Stated.{StatedSetup}
use Rattle.jg_rules.specs.Parts.{Parts}
use Rattle.jg_rules.specs.Names.{object_named}
use Rattle.jg_judge.specs.Broken.{verdict}
use Rattle.jg_judge.specs.Written.{arguments_of, row_for, written_bounds}
use Rattle.jg_judge.proofs.Agreed.{judged_as_written}
use Rattle.jg_judge.proofs.Sorts.{calls_suit}
use Rattle.jg_judge.proofs.Rows.{effect_of, row_is}
use Rattle.jg_core.specs.declared.fact.Fact.{Fact}
use Rattle.jg_core.specs.declared.fact.Fact.TheVariants.{Raise, Own, Free}
use Rattle.jg_core.specs.declared.says.Says.{Says}
use Rattle.jg_core.specs.Expected.{expected_of, told, done_to}
use Rattle.jg_core.specs.Implied.{implied, doing, lending, of_object}
use Rattle.jg_core.specs.declared.asking.Answer.TheVariants.{Misfit}
use Rattle.jg_core.specs.Asking.{AskedAsCalls, ToldAsCalls, by_row, by_verdict}

named_again : (found : Option ℕ) → option_map (λ (o : ObjId). o.0) (option_map (λ n. record { 0 = n }) found) ≡ found
named_again None = refl
named_again (Some n) = refl

done_same : (t : Tid) (fact : ObjId → Fact) (found : Option ℕ) (says : Says) → told t (done_to fact found) says ≡ doing t (of_object fact found) says
done_same t fact None says = refl
done_same t fact (Some o) says = refl

tied : (s : StatedSetup) (p : Parts) (t : Tid) (call : Call) (says : Says)
    → told t (expected_of s p t (row_for (fun_of call)) (effect_of (fun_of call)) (arguments_of s p t.0 call)) says ≡ implied s p t call says
tied s p t (Vm AttachCurrentThread) says = refl
tied s p t (Refs (NewLocalRef r)) says = refl
tied s p t (Frames (PushLocalFrame capacity)) says = refl
tied s p t (Exceptions (Throw r)) says = done_same t (λ o. Raise t o) (object_named p t.0 r) says
tied s p t (Objects (FindClass name)) says = refl
tied s p t (Objects (GetField Boolean r f)) says = refl
tied s p t (Objects (SetField Boolean r f value)) says = refl
tied s p t (Strings (NewString units)) says = refl
tied s p t (Arrays (NewArray element n)) says = refl
tied s p t (Arrays (GetArrayRegion Boolean r start n)) says = refl
tied s p t (Arrays (SetArrayRegion Boolean r start values)) says = refl
tied s p t (Monitors (MonitorEnter r)) says = done_same t (λ o. Own t o) (object_named p t.0 r) says
tied s p t (Monitors (MonitorExit r)) says = done_same t (λ o. Free t o) (object_named p t.0 r) says
tied s p t (Buffers (GetArrayElements element r)) says = ap (λ o. lending t (Elements (Of element)) o Null says) (named_again (object_named p t.0 r))
tied s p t (Buffers (GetStringChars r)) says = ap (λ o. lending t Chars o Null says) (named_again (object_named p t.0 r))
tied s p t (Buffers (GetStringUTFChars r)) says = ap (λ o. lending t UtfChars o Null says) (named_again (object_named p t.0 r))
tied s p t (Buffers (GetPrimitiveArrayCritical r)) says = ap (λ o. lending t ArrayCritical o r says) (named_again (object_named p t.0 r))
tied s p t (Buffers (GetStringCritical r)) says = ap (λ o. lending t StringCritical o r says) (named_again (object_named p t.0 r))
tied s p t call says = refl

pub told_as_calls : ToldAsCalls
told_as_calls s p t call says =
    ap (λ e. told t (expected_of s p t (row_for (fun_of call)) e (arguments_of s p t.0 call)) says) (row_is (fun_of call)).effect ∙ tied s p t call says

pub asked_as_calls : AskedAsCalls
asked_as_calls s p t env call place stated is =
    ap (by_row written_bounds s p t env (arguments_of s p t.0 call)) is
    ∙ (ap (λ b. if b then by_verdict written_bounds s p t env (row_for (fun_of call)) (arguments_of s p t.0 call)
    (verdict written_bounds s p t.0 env (row_for (fun_of call)) (arguments_of s p t.0 call)) else Misfit) (calls_suit s p t.0 call)
    ∙ ap (by_verdict written_bounds s p t env (row_for (fun_of call)) (arguments_of s p t.0 call)) (judged_as_written s p t.0 env call stated))
