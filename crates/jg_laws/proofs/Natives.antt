-- What was entered was linked, and what the setup states of fields holds of each object.
use Rattle.std.proofs.Common.{◌≡◌, ◌∙◌, List, ◌∷◌, Option, Some, None, refl, sym, ap, subst}
use Rattle.std.specs.List.{AllByRecursion}
use Rattle.std.proofs.lemmas.Bool.{not-false}
use Rattle.jg_words.specs.declared.rule.Rule.{Rule}
use Rattle.jg_words.specs.Entry.{Entry}
use Rattle.jg_words.specs.declared.entry.Reply.{Reply}
use Rattle.jg_words.specs.declared.entry.Outcome.TheVariants.{Passed, Denied}
use Rattle.jg_words.specs.declared.call.Call.{Call}
use Rattle.jg_words.specs.declared.call.Call.TheVariants.{Vm}
use Rattle.jg_words.specs.declared.call.vm.VmCall.TheVariants.{NativeEnter}
use Rattle.jg_policy.specs.Stated.{StatedSetup}
use Rattle.jg_rules.specs.Names.{class_of}
use Rattle.jg_rules.specs.Parts.{Parts}
use Rattle.jg_rules.specs.Effects.{parts}
use Rattle.jg_rules.specs.Rules.{verdict}
use Rattle.jg_rules.specs.Answers.{answer}
use Rattle.jg_rules.specs.Legal.{Legal, entry_by}
use Rattle.jg_rules.specs.Unbroken.{Unbroken}
use Rattle.jg_rules.proofs.Kept.{unbroken}
use Rattle.jg_laws.specs.Laws.{MakesStated, FieldsAreStated, EnteredWasLinked}
use Rattle.jg_laws.proofs.Makings.{all_append, length_stated}
use Rattle.jg_laws.proofs.Steps.{Steps, heap_steps, each_legal}
use Rattle.jg_laws.proofs.Fresh.{Legal-before}

-- ---- fields

-- each object was made as the setup states
abbrev pub AllStated : StatedSetup → Parts → Type 0
AllStated s p = AllByRecursion (MakesStated s) p.heap

stated_steps : (s : StatedSetup) → Steps s (AllStated s)
stated_steps s = heap_steps s (AllByRecursion (MakesStated s)) (all_append (MakesStated s))

pub all_stated : (s : StatedSetup) (h : List Entry) → Legal s h → AllStated s (parts s h)
all_stated s h legal = each_legal (AllStated s) s (stated_steps s) tt h legal

pub fields_are_stated : FieldsAreStated
fields_are_stated s h o legal high =
    length_stated s (parts s h) o (class_of s (parts s h) o) (all_stated s h legal) refl high

-- ---- native methods

never_passed : (rule : Rule) (reply : Reply) → Denied rule ≡ Passed reply → ⊥
never_passed rule reply is = cc

-- a call that passed broke no rule
pub passed_unbroken : (s : StatedSetup) (p : Parts) (v : Option Rule) (x : Entry) (reply : Reply) → verdict s p x.tid.0 x.env x.call ≡ v
    → x ≡ entry_by v (answer s p x.tid x.call) x.tid x.env x.call → x.outcome ≡ Passed reply → Unbroken s p x.tid.0 x.env x.call
passed_unbroken s p (Some rule) x reply denied is passed = absurd (never_passed rule reply (sym (ap (λ (y : Entry). y.outcome) is) ∙ passed))
passed_unbroken s p None x reply none is passed = unbroken s p x.tid.0 x.env x.call none

pub entered_was_linked : EnteredWasLinked
entered_was_linked s later x before class method signature reply legal is passed =
    let own = Legal-before s later (x ∷ before) legal in
    let kept = passed_unbroken s (parts s before) (verdict s (parts s before) x.tid.0 x.env x.call) x reply refl own.0 passed in
    let here : Unbroken s (parts s before) x.tid.0 x.env (Vm (NativeEnter class method signature)) =
    subst (λ (call : Call). Unbroken s (parts s before) x.tid.0 x.env call) is kept in
    (not-false _ here.is_linked, here.accessible)
