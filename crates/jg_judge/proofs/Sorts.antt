-- One operand that suits leaves the others to be looked at, and the operands of a call suit its function.
use Rattle.std.proofs.Common.{◌≡◌, ◌∙◌, ℕ, true, List, ◌∷◌, refl, ap, subst, sym}
use Rattle.std.specs.Prelude.{if◌then◌else◌}
use Rattle.jg_words.specs.declared.call.Call.{Call}
use Rattle.jg_words.specs.declared.call.Call.TheVariants.{Vm, Refs, Frames, Exceptions, Objects, Strings, Arrays, Monitors, Buffers}
use Rattle.jg_words.specs.declared.call.vm.VmCall.TheVariants.{AttachCurrentThread}
use Rattle.jg_words.specs.declared.call.refs.RefsCall.TheVariants.{NewLocalRef}
use Rattle.jg_words.specs.declared.call.frames.FramesCall.TheVariants.{PushLocalFrame}
use Rattle.jg_words.specs.declared.call.exceptions.ExceptionsCall.TheVariants.{Throw}
use Rattle.jg_words.specs.declared.call.objects.ObjectsCall.TheVariants.{FindClass}
use Rattle.jg_words.specs.declared.call.strings.StringsCall.TheVariants.{NewString}
use Rattle.jg_words.specs.declared.call.arrays.ArraysCall.TheVariants.{NewArray}
use Rattle.jg_words.specs.declared.call.monitors.MonitorsCall.TheVariants.{MonitorEnter}
use Rattle.jg_words.specs.declared.call.buffers.BuffersCall.TheVariants.{GetArrayElements}
use Rattle.jg_words.specs.Call.{fun_of}
use Rattle.jg_policy.specs.Stated.{StatedSetup}
use Rattle.jg_rules.specs.Parts.{Parts}
use Rattle.jg_rows.specs.declared.row.Takes.{Takes}
use Rattle.jg_judge.specs.declared.argument.Argument.{Argument}
use Rattle.jg_judge.specs.Asked.{is_last}
use Rattle.jg_judge.specs.Suits.{suits, suits_one}
use Rattle.jg_judge.specs.Written.{CallsSuit, arguments_of}
use Rattle.jg_judge.proofs.Rows.{takes_of, row_is}

pub one_suits : (takes : Takes) (x : Argument) (wanted more : List Takes) (rest later : List Argument)
    → wanted ≡ takes ∷ more → rest ≡ x ∷ later → suits_one takes x ≡ true
    → suits (if is_last takes then takes ∷ more else more) later ≡ suits wanted rest
one_suits takes x wanted more rest later wanted_is rest_is suited =
    subst (λ r. suits (if is_last takes then takes ∷ more else more) later ≡ suits wanted r) (sym rest_is)
    (subst (λ w. suits (if is_last takes then takes ∷ more else more) later ≡ suits w (x ∷ later)) (sym wanted_is)
    (sym (rw (suited) refl)))

suited : (s : StatedSetup) (p : Parts) (t : ℕ) (call : Call) → suits (takes_of (fun_of call)) (arguments_of s p t call) ≡ true
suited s p t (Vm AttachCurrentThread) = refl
suited s p t (Refs (NewLocalRef r)) = refl
suited s p t (Frames (PushLocalFrame capacity)) = refl
suited s p t (Exceptions (Throw r)) = refl
suited s p t (Objects (FindClass name)) = refl
suited s p t (Strings (NewString units)) = refl
suited s p t (Arrays (NewArray element n)) = refl
suited s p t (Monitors (MonitorEnter r)) = refl
suited s p t (Buffers (GetArrayElements element r)) = refl
suited s p t call = refl

pub calls_suit : CallsSuit
calls_suit s p t call = ap (λ takes. suits takes (arguments_of s p t call)) (row_is (fun_of call)).takes ∙ suited s p t call
