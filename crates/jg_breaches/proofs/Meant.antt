-- The references among a call's operands are those that the row of its function takes.
use Rattle.std.proofs.Common.{◌≡◌, ◌∙◌, ℕ, Bool, true, false, List, [], Option, Some, None, refl, ap, sym}
use Rattle.std.specs.Prelude.{if◌then◌else◌}
use Rattle.std.specs.List.{find}
use Rattle.std.specs.Option.{is_some, unwrap_or}
use Rattle.jg_words.specs.declared.call.Call.{Call}
use Rattle.jg_words.specs.declared.call.Call.TheVariants.{Vm, Refs, Frames, Exceptions, Objects, Strings, Arrays, Monitors, Buffers}
use Rattle.jg_words.specs.declared.call.vm.VmCall.TheVariants.{AttachCurrentThread}
use Rattle.jg_words.specs.declared.call.refs.RefsCall.TheVariants.{NewLocalRef}
use Rattle.jg_words.specs.declared.call.frames.FramesCall.TheVariants.{PushLocalFrame}
use Rattle.jg_words.specs.declared.call.exceptions.ExceptionsCall.TheVariants.{Throw}
use Rattle.jg_words.specs.declared.call.objects.ObjectsCall.TheVariants.{FindClass}
use Rattle.jg_words.specs.declared.call.strings.StringsCall.TheVariants.{NewString}
use Rattle.jg_words.specs.declared.call.arrays.ArraysCall.TheVariants.{NewArray}
use Rattle.jg_words.specs.declared.call.monitors.MonitorsCall.TheVariants.{MonitorEnter}
use Rattle.jg_words.specs.declared.call.buffers.BuffersCall.TheVariants.{GetArrayElements}
use Rattle.jg_words.specs.Call.{fun_of}
use Rattle.jg_words.specs.declared.rule.Rule.{Rule}
use Rattle.jg_policy.specs.Stated.{StatedSetup}
use Rattle.jg_rules.specs.declared.operand.Operand.{Operand}
use Rattle.jg_rules.specs.Operands.{operands}
use Rattle.jg_rules.specs.Parts.{Parts}
use Rattle.jg_rows.specs.Columns.{Columns}
use Rattle.jg_rows.specs.declared.row.Takes.{Takes}
use Rattle.jg_judge.specs.declared.argument.Argument.{Argument}
use Rattle.jg_judge.specs.Written.{arguments_of, row_for}
use Rattle.jg_judge.proofs.Rows.{takes_of, row_is}
use Rattle.jg_breaches.specs.Breaches.{breaks, operand_meant}
use Rattle.jg_breaches.specs.Referred.{also, referred}

are_referred : (s : StatedSetup) (p : Parts) (t : ℕ) (call : Call) → referred (takes_of (fun_of call)) (arguments_of s p t call) ≡ operands call
are_referred s p t (Vm AttachCurrentThread) = refl
are_referred s p t (Refs (NewLocalRef r)) = refl
are_referred s p t (Frames (PushLocalFrame capacity)) = refl
are_referred s p t (Exceptions (Throw r)) = refl
are_referred s p t (Objects (FindClass name)) = refl
are_referred s p t (Strings (NewString units)) = refl
are_referred s p t (Arrays (NewArray element n)) = refl
are_referred s p t (Monitors (MonitorEnter r)) = refl
are_referred s p t (Buffers (GetArrayElements element r)) = refl
are_referred s p t call = refl

-- the first that breaks the rule is the one that is meant
pub is_meant : (s : StatedSetup) (p : Parts) (t : ℕ) (call : Call) (rule : Rule) (row : Columns) (found : Option Columns) (xs : List Argument)
    (given : Option Operand)
    → found ≡ Some row → found ≡ Some (row_for (fun_of call)) → xs ≡ arguments_of s p t call
    → given ≡ find (breaks s p t rule) (referred row.takes xs) → given ≡ operand_meant s p t call rule
is_meant s p t call rule row found xs given here there xs_are given_is =
    let row_is_its : row ≡ row_for (fun_of call) = ap (λ (x : Option Columns). unwrap_or x row) (sym here ∙ there) in
    let takes_are : row.takes ≡ takes_of (fun_of call) = ap (λ (r : Columns). r.takes) row_is_its ∙ (row_is (fun_of call)).takes in
    given_is
    ∙ (ap (λ (takes : List Takes). find (breaks s p t rule) (referred takes xs)) takes_are
    ∙ (ap (λ (x : List Argument). find (breaks s p t rule) (referred (takes_of (fun_of call)) x)) xs_are
    ∙ ap (find (breaks s p t rule)) (are_referred s p t call)))

-- ---- the first operand of several

found_by : (b : Bool) (test : Operand → Bool) (x : Operand) (later : List Operand) → is_some (if b then Some x else None) ≡ true
    → (if b then Some x else None) ≡ (if b then Some x else find test later)
found_by true test x later some = refl
found_by false test x later some = absurd cc

pub one_found : (test : Operand → Bool) (operand found : Option Operand) (later : List Operand) → found ≡ find test (also operand []) → is_some found ≡ true
    → found ≡ find test (also operand later)
one_found test None found later found_is some =
    absurd (let none : is_some found ≡ false = ap is_some found_is in let clash : false ≡ true = sym none ∙ some in cc)
one_found test (Some x) found later found_is some = found_is ∙ found_by (test x) test x later (sym (ap is_some found_is) ∙ some)
