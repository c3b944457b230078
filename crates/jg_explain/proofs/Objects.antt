-- A reference comes to name an object at the entry alone that hands it out.
use Rattle.std.proofs.Common.{◌≡◌, ◌++◌, ◌∙◌, ℕ, Bool, true, false, List, [], ◌∷◌, Option, Some, None, refl, ap, sym}
use Rattle.std.specs.Prelude.{◌==◌, if◌then◌else◌, not}
use Rattle.std.specs.Option.{is_some}
use Rattle.std.proofs.option.Match.{None-if_not_some}
use Rattle.jg_words.specs.Entry.{Entry}
use Rattle.jg_words.specs.declared.thread.Tid.{Tid}
use Rattle.jg_words.specs.declared.thread.EnvId.{EnvId}
use Rattle.jg_words.specs.declared.object.ObjId.{ObjId}
use Rattle.jg_words.specs.declared.reference.Ref.{Ref}
use Rattle.jg_words.specs.declared.reference.Ref.TheVariants.{Null, To}
use Rattle.jg_words.specs.declared.reference.Kind.TheVariants.{Local, Global, Weak}
use Rattle.jg_words.specs.declared.rule.Rule.{Rule}
use Rattle.jg_words.specs.declared.call.Call.{Call}
use Rattle.jg_words.specs.declared.entry.Outcome.TheVariants.{Passed}
use Rattle.jg_words.specs.declared.entry.Reply.{Reply}
use Rattle.jg_policy.specs.Stated.{StatedSetup}
use Rattle.jg_table_locals.specs.History.{acts_of, live}
use Rattle.jg_table_globals.specs.History as globals
use Rattle.jg_rules.specs.declared.named.Named.TheVariants.{Nothing}
use Rattle.jg_rules.specs.Parts.{Parts}
use Rattle.jg_rules.specs.Names.{named_by, named_by_target, object_in, object_named}
use Rattle.jg_rules.specs.Rules.{is_nothing, verdict}
use Rattle.jg_rules.specs.Effects.{parts, after, call_globals, if_effective, is_effective}
use Rattle.jg_rules.specs.Answers.{answer}
use Rattle.jg_rules.specs.Legal.{Legal, entry_by}
use Rattle.jg_laws.specs.Histories.{reference_in, reference_of}
use Rattle.jg_laws.proofs.Steps.{makes_none}
use Rattle.jg_breaches.specs.declared.condition.Condition.TheVariants.{Names, NamesObject}
use Rattle.jg_breaches.specs.Conditions.{holds}
use Rattle.jg_breaches.proofs.Making.{made_by_its_answer, no_some, no_global_if}
use Rattle.jg_explain.proofs.Onces.{is_there}
use Rattle.jg_explain.proofs.Clearing.{by_value, none_kept, none_names}

-- a weak reference that a passed call brings to an object
weak_comes : (s : StatedSetup) (p : Parts) (u : ℕ) (call : Call) (reply : Reply) (object : Option ObjId) (t : ℕ) (maker : Tid) (n : ℕ)
    → object_named p t (To Weak maker n) ≡ None
    → (o : ℕ) → object_named (after s u call (Passed reply) object p) t (To Weak maker n) ≡ Some o → reference_in reply.value ≡ Some (To Weak maker n)
weak_comes s p u call reply object t maker n none o some =
    let e = if_effective (is_effective reply.value) (call_globals s p u call) in
    let silent = no_global_if (is_effective reply.value) (call_globals s p u call) (makes_none s p u call) in
    let was = none_names (globals.after_making maker.0 n p.globals) (globals.weak p.globals maker.0 n) none in
    let made = by_value maker.0 n (e ++ p.globals) (none_kept maker.0 n e p.globals silent was) o reply.value object some in
    ap reference_in made.1.1.1.1 ∙ ap (λ (k : ℕ). Some (To Weak (record { 0 = k }) made.1.0)) made.1.1.0 ∙ ap (λ (k : ℕ). Some (To Weak maker k)) made.1.1.1.0

weak_hands : (s : StatedSetup) (p : Parts) (u : Tid) (env : Option EnvId) (call : Call) (t : ℕ) (maker : Tid) (n : ℕ) (verdict : Option Rule) (y : Entry)
    → y ≡ entry_by verdict (answer s p u call) u env call → object_named p t (To Weak maker n) ≡ None → (o : ℕ)
    → object_named (after s y.tid.0 y.call y.outcome y.object p) t (To Weak maker n) ≡ Some o → reference_of y.outcome ≡ Some (To Weak maker n)
weak_hands s p u env call t maker n (Some rule) y is none o some =
    absurd (no_some (object_named p t (To Weak maker n)) o none
    (sym (ap (λ (x : Entry). object_named (after s x.tid.0 x.call x.outcome x.object p) t (To Weak maker n)) is) ∙ some))
weak_hands s p u env call t maker n None y is none o some =
    let a = answer s p u call in
    let here = sym (ap (λ (x : Entry). object_named (after s x.tid.0 x.call x.outcome x.object p) t (To Weak maker n)) is) ∙ some in
    ap (λ (x : Entry). reference_of x.outcome) is ∙ weak_comes s p u.0 call a.reply a.object t maker n none o here

-- what no weak reference names is an object or nothing
local_same : (b : Bool) (found : Option ℕ)
    → is_some (object_in (if b then named_by found else Nothing)) ≡ not (is_nothing (if b then named_by found else Nothing))
local_same true None = refl
local_same true (Some o) = refl
local_same false found = refl

global_same : (found : Option ℕ)
    → is_some (object_in (named_by_target (globals.strong_target found))) ≡ not (is_nothing (named_by_target (globals.strong_target found)))
global_same None = refl
global_same (Some o) = refl

pub object_by_its_answer : (s : StatedSetup) (h : List Entry) (x : Entry) (t : Tid) (r : Ref) → Legal s (x ∷ h) → holds (parts s h) (NamesObject t r) ≡ false
    → holds (parts s (x ∷ h)) (NamesObject t r) ≡ true → reference_of x.outcome ≡ Some r
object_by_its_answer s h x t Null legal none some = absurd cc
object_by_its_answer s h x t (To Local maker n) legal none some =
    let same : (p : Parts) → holds p (NamesObject t (To Local maker n)) ≡ holds p (Names t (To Local maker n)) =
    λ p. local_same (maker.0 == t.0) (live n (acts_of t.0 p.locals)) in
    made_by_its_answer s [] x h t (To Local maker n) legal (sym (same (parts s h)) ∙ none) (sym (same (parts s (x ∷ h))) ∙ some)
object_by_its_answer s h x t (To Global maker n) legal none some =
    let same : (p : Parts) → holds p (NamesObject t (To Global maker n)) ≡ holds p (Names t (To Global maker n)) =
    λ p. global_same (globals.strong p.globals maker.0 n) in
    made_by_its_answer s [] x h t (To Global maker n) legal (sym (same (parts s h)) ∙ none) (sym (same (parts s (x ∷ h))) ∙ some)
object_by_its_answer s h x t (To Weak maker n) legal none some =
    let now = is_there (object_named (parts s (x ∷ h)) t.0 (To Weak maker n)) some in
    weak_hands s (parts s h) x.tid x.env x.call t.0 maker n (verdict s (parts s h) x.tid.0 x.env x.call) x legal.0
    (None-if_not_some (object_named (parts s h) t.0 (To Weak maker n)) none) now.0 now.1
