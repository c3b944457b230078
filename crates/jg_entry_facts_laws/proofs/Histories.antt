-- The facts of a legal history could be, and read as it does.
use Rattle.std.proofs.Common.{ℕ, ◌≡◌, ◌∙◌, ◌<◌, List, [], ◌∷◌, Option, Some, None, refl, ap, sym, subst}
use Rattle.jg_words.specs.declared.thread.Tid.{Tid}
use Rattle.jg_words.specs.declared.thread.EnvId.{EnvId}
use Rattle.jg_words.specs.declared.rule.Rule.{Rule}
use Rattle.jg_words.specs.declared.call.Call.{Call}
use Rattle.jg_words.specs.Call.{fun_of}
use Rattle.jg_words.specs.Entry.{Entry}
use Rattle.jg_policy.specs.Stated.{StatedSetup, class_count}
use Rattle.jg_rules.specs.Parts.{Parts, nothing_yet}
use Rattle.jg_rules.specs.Effects.{parts, after}
use Rattle.jg_rules.specs.Rules.{verdict}
use Rattle.jg_rules.specs.Answers.{answer}
use Rattle.jg_rules.specs.Legal.{Legal, entry_by}
use Rattle.jg_rules.proofs.Kept.{unbroken}
use Rattle.jg_judge.specs.Written.{AreStated, arguments_of, row_for, written_bounds}
use Rattle.jg_laws.proofs.HandedHere.{all_here, classes_are_stated}
use Rattle.jg_laws.proofs.Natives.{all_stated}
use Rattle.jg_laws.proofs.Owners.{all_allowed as entries_allowed}
use Rattle.jg_core.specs.declared.fact.Fact.{Fact}
use Rattle.jg_core.specs.Asking.{by_verdict}
use Rattle.jg_core.specs.Facts.{parts_of, History}
use Rattle.jg_core.proofs.Owners.{all_allowed as facts_allowed}
use Rattle.jg_core.proofs.Tied.{asked_as_calls}
use Rattle.jg_entry_facts_laws.specs.Entries.{outcome_facts, facts_of}
use Rattle.jg_entry_facts_laws.specs.Laws.{FactsReadAlike, FactsCouldBe, JudgedAlike, AskedAlike}
use Rattle.jg_entry_facts_laws.proofs.Idle.{all_idle, agreed_told}
use Rattle.jg_entry_facts_laws.proofs.Alike.{Alike, reads}
use Rattle.jg_entry_facts_laws.proofs.Judged.{alike_is_judged_alike}
use Rattle.jg_entry_facts_laws.proofs.Steps.{Told, none, parts_more, history_more}
use Rattle.jg_entry_facts_laws.proofs.Own.{Known}
use Rattle.jg_entry_facts_laws.proofs.Told.{call_told}

-- the entry of a call is its facts
entry_told : (s : StatedSetup) (v : Option Rule) (p q : Parts) (t : Tid) (env : Option EnvId) (call : Call) → verdict s q t.0 env call ≡ v → Known s p q
    → (y : Entry) → y ≡ entry_by v (answer s q t call) t env call
    → Told s p (after s y.tid.0 y.call y.outcome y.object q) (outcome_facts s q y.tid y.call y.outcome y.object)
entry_told s (Some rule) p q t env call is known y same = rw same (none s p q known.same)
entry_told s None p q t env call is known y same = rw same (call_told s p q t env known call (unbroken s q t.0 env call is))

record Tied (s : StatedSetup) (h : List Entry) : Type 0 where
  could : History s (facts_of s h)
  alike : Alike s (parts_of (facts_of s h)) (parts s h)

nothing_alike : (s : StatedSetup) → Alike s nothing_yet nothing_yet
nothing_alike s = record {
  threads = λ t. record { attached = refl; sessions = refl; enters = refl; leaves = refl; pending = refl; refs = refl; buffers = refl };
  locals = λ t. record { has = refl; acts = refl };
  globals = record { strong = λ maker n. refl; weak = λ maker n. refl };
  buffers = λ maker n. refl;
  monitors = λ t. refl;
  heap = record { count = refl; gone = λ o. refl; class = λ o. refl; length = λ o. refl };
  links = refl;
}

tied : (s : StatedSetup) (h : List Entry) → Legal s h → Tied s h
tied s [] legal = record { could = tt; alike = nothing_alike s }
tied s (x ∷ h) legal =
    let q : Parts = parts s h in
    let w : List Fact = facts_of s h in
    let xs : List Fact = outcome_facts s q x.tid x.call x.outcome x.object in
    let old = tied s h legal.1 in
    let known : Known s (parts_of w) q = record {
      same = old.alike;
      left = facts_allowed s w old.could;
      right = entries_allowed s h legal.1;
      idle = all_idle s w old.could;
      agreed = agreed_told s w old.could;
      all = all_here s h legal.1;
      stated = all_stated s h legal.1;
    } in
    let told = entry_told s (verdict s q x.tid.0 x.env x.call) (parts_of w) q x.tid x.env x.call refl known x legal.0 in
    record {
      could = history_more s xs w told.can old.could;
      alike = subst (λ (p : Parts). Alike s p (parts s (x ∷ h))) (sym (parts_more xs w)) told.alike;
    }

pub facts_could_be : FactsCouldBe
facts_could_be s h legal = (tied s h legal).could

pub facts_read_alike : FactsReadAlike
facts_read_alike s h legal =
    let both = tied s h legal in
    reads s (parts_of (facts_of s h)) (parts s h) (facts_allowed s (facts_of s h) both.could) (entries_allowed s h legal) both.alike

pub judged_alike : JudgedAlike
judged_alike s h t env call legal = alike_is_judged_alike s (parts_of (facts_of s h)) (parts s h) t env call (facts_read_alike s h legal)

-- a call's question has the call's verdict where each object is of a class of the setup, as it is after each legal history
pub asked_alike : AskedAlike
asked_alike s h t env call place legal at =
    let p : Parts = parts_of (facts_of s h) in
    let same = facts_read_alike s h legal in
    let stated : AreStated s p = λ o. subst (λ (class : ℕ). class < class_count s) (sym (same.classes o)) (classes_are_stated s h o legal) in
    asked_as_calls s p t env call place stated at
    ∙ ap (by_verdict written_bounds s p t env (row_for (fun_of call)) (arguments_of s p t.0 call)) (judged_alike s h t.0 env call legal)
