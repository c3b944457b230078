-- What a log beside a guard stands for after one call more.
use Rattle.std.proofs.Common.{◌≡◌, ◌+◌, ◌∙◌, ℕ, true, false, length, List, ◌∷◌, Option, Some, None, Result, Ok, Err, OnOk, refl, ap, sym, subst}
use Rattle.std.specs.Prelude.{is_err, reverse, slice_get, OnErr}
use Rattle.jg_words.specs.declared.thread.Tid.{Tid}
use Rattle.jg_words.specs.declared.thread.EnvId.{EnvId}
use Rattle.jg_words.specs.declared.rule.Rule.{Rule}
use Rattle.jg_words.specs.declared.call.Call.{Call}
use Rattle.jg_words.specs.Call.{fun_of}
use Rattle.jg_words.specs.Entry.{Entry}
use Rattle.jg_policy.specs.Stated.{StatedSetup}
use Rattle.jg_guard.specs.Guard.{next_entry, State}
use Rattle.jg_script.specs.Entries.{Took}
use Rattle.jg_rows.specs.Table.{functions}
use Rattle.jg_rules.specs.declared.answer.Answer.{Answer}
use Rattle.jg_rules.specs.Answers.{answer}
use Rattle.jg_rules.specs.Effects.{parts}
use Rattle.jg_rules.specs.Legal.{entry_at, entry_by}
use Rattle.jg_rules.specs.Parts.{Parts}
use Rattle.jg_rules.specs.Rules.{verdict}
use Rattle.jg_judge.specs.Written.{arguments_of, row_for}
use Rattle.jg_core.specs.declared.fact.Fact.{Fact}
use Rattle.jg_entry_facts_laws.specs.Entries.{outcome_facts}
use Rattle.jg_entry_facts.specs.declared.foreseen.Foreseen.{Foreseen}
use Rattle.jg_entry_facts.specs.Foreseen.{Foresees}
use Rattle.jg_advice.specs.Moments.{Called, Moment}
use Rattle.jg_advice.specs.Told.{AdviceLogState, LogStands}
use Rattle.jg_guard_advice.specs.Logged.{AreMoments, Follows, IsQuestion, name_handed, with_facts}

-- where memory ran out, there is nothing to stand for
pub lost_stands : (x : AdviceLogState) (h : List Moment) → x.lost ≡ true → LogStands x h
lost_stands x h lost = record {
  stands = λ free. absurd (let clash : true ≡ false = sym lost ∙ free in cc);
  notes = λ free. absurd (let clash : true ≡ false = sym lost ∙ free in cc);
}

-- what an answer that isn't an error says
pub unless_err : {T E P : Type 0} (r : Result T E) → is_err r ≡ false → OnOk r P → P
unless_err (Ok v) free says = says
unless_err (Err e) free says = absurd (let clash : true ≡ false = free in cc)

pub question : (s : StatedSetup) (p : Parts) (n : ℕ) (t : Tid) (call : Call) (place : ℕ) (name : List ℕ)
    → slice_get functions place ≡ Some (row_for (fun_of call))
    → name ≡ name_handed call → IsQuestion s p n t call (record { line = n; what = Called s t place (arguments_of s p t.0 call) name; parts = p })
question s p n t call place name function is = record {
  place = place;
  function = function;
  is = ap (λ (text : List ℕ). record { line = n; what = Called s t place (arguments_of s p t.0 call) text; parts = p }) is;
}

-- ---- one entry more

module _ (s : StatedSetup) (h : List Entry) (t : Tid) (env : Option EnvId) (call : Call) (before : List Moment) (are : AreMoments s h before) where
  abbrev p : Parts
  p = parts s h

  passed_by : (v : Option Rule) (a : Answer) (m : Moment) → v ≡ None → IsQuestion s p (length h + 1) t call m
      → AreMoments s (entry_by v a t env call ∷ h) (with_facts (length h + 1) (parts s (entry_by v a t env call ∷ h))
      (reverse (outcome_facts s p (entry_by v a t env call).tid (entry_by v a t env call).call (entry_by v a t env call).outcome
      (entry_by v a t env call).object)) (m ∷ before))
  passed_by None a m is asked = (before, are, (m, asked, refl))
  passed_by (Some rule) a m is asked = absurd (let clash : Some rule ≡ None = is in cc)

  -- its call passed
  pub passed : (m : Moment) → verdict s p t.0 env call ≡ None → IsQuestion s p (length h + 1) t call m
      → AreMoments s (entry_at s p t env call ∷ h) (with_facts (length h + 1) (parts s (entry_at s p t env call ∷ h))
      (reverse (outcome_facts s p (entry_at s p t env call).tid (entry_at s p t env call).call (entry_at s p t env call).outcome
      (entry_at s p t env call).object)) (m ∷ before))
  passed m is asked = passed_by (verdict s p t.0 env call) (answer s p t call) m is asked

  denied_by : (v : Option Rule) (a : Answer) (rule : Rule) → v ≡ Some rule → AreMoments s (entry_by v a t env call ∷ h) before
  denied_by (Some other) a rule is = (before, are, refl)
  denied_by None a rule is = absurd (let clash : None ≡ Some rule = is in cc)

  -- its call was denied
  pub denied : (rule : Rule) → verdict s p t.0 env call ≡ Some rule → AreMoments s (entry_at s p t env call ∷ h) before
  denied rule is = denied_by (verdict s p t.0 env call) (answer s p t call) rule is

-- ---- beside a guard

-- the guard took no call, and memory ran out
pub refused : (first old new : AdviceLogState) (s s' : StatedSetup) (h h' : List Entry) → Follows first old s h → new.lost ≡ true → s' ≡ s → h' ≡ h
    → new.adviser.most ≡ old.adviser.most
    → new.noting.all ≡ old.noting.all → Follows first new s' h'
refused first old new s s' h h' follows lost setup journal most all = record {
  logged = (
    follows.logged.0,
    subst (λ (j : List Entry). AreMoments s' j follows.logged.0) (sym journal)
        (subst (λ (t : StatedSetup). AreMoments t h follows.logged.0) (sym setup) follows.logged.1),
    lost_stands new follows.logged.0 lost,
  );
  most = most ∙ follows.most;
  all = all ∙ follows.all;
}

-- of a call that is denied the log is told nothing, whether the guard took it or memory ran out
pub denied_follows : {T E : Type 0} (first old : AdviceLogState) (g g' : State) (t : Tid) (env : Option EnvId) (call : Call) (rule : Rule) (r : Result T E)
    → Follows first old g.setup g.journal
    → verdict g.setup (parts g.setup g.journal) t.0 env call ≡ Some rule → g'.setup ≡ g.setup → OnOk r (Took g g' (next_entry g t env call))
    → OnErr r (g'.journal ≡ g.journal)
    → Follows first old g'.setup g'.journal
denied_follows first old g g' t env call rule (Ok v) follows is setup took same =
    let before : List Moment = follows.logged.0 in
    let entry : Entry = next_entry g t env call in
    let are : AreMoments g.setup (entry ∷ g.journal) before = denied g.setup g.journal t env call before follows.logged.1 rule is in
    record {
      logged = (
        before,
        subst (λ (j : List Entry). AreMoments g'.setup j before) (sym took.journal)
            (subst (λ (s : StatedSetup). AreMoments s (entry ∷ g.journal) before) (sym setup) are),
        follows.logged.2,
      );
      most = follows.most;
      all = follows.all;
    }
denied_follows first old g g' t env call rule (Err e) follows is setup took same =
    let before : List Moment = follows.logged.0 in
    record {
      logged = (
        before,
        subst (λ (j : List Entry). AreMoments g'.setup j before) (sym same)
            (subst (λ (s : StatedSetup). AreMoments s g.journal before) (sym setup) follows.logged.1),
        follows.logged.2,
      );
      most = follows.most;
      all = follows.all;
    }

own_tid : (v : Option Rule) (a : Answer) (t : Tid) (env : Option EnvId) (call : Call) → (entry_by v a t env call).tid ≡ t
own_tid None a t env call = refl
own_tid (Some rule) a t env call = refl

own_call : (v : Option Rule) (a : Answer) (t : Tid) (env : Option EnvId) (call : Call) → (entry_by v a t env call).call ≡ call
own_call None a t env call = refl
own_call (Some rule) a t env call = refl

-- what was foreseen of the call is of its entry
pub foreseen_so : {A : Type 0} (s v : StatedSetup) (p : Parts) (t : Tid) (env : Option EnvId) (call : Call) (entry : Entry) (seen : Foreseen A) → v ≡ s
    → entry ≡ entry_at s p t env call
    → Foresees v p t call seen → Foresees s p entry.tid entry.call seen
foreseen_so s v p t env call entry seen setup is foresees =
    let e : Entry = entry_at s p t env call in
    subst (λ (x : Entry). Foresees s p x.tid x.call seen) (sym is)
    (subst (λ (u : Tid). Foresees s p u e.call seen) (sym (own_tid (verdict s p t.0 env call) (answer s p t call) t env call))
    (subst (λ (c : Call). Foresees s p t c seen) (sym (own_call (verdict s p t.0 env call) (answer s p t call) t env call))
    (subst (λ (w : StatedSetup). Foresees w p t call seen) setup foresees)))

-- the guard took a call that passes, and the log was told its question before and its facts after it
pub took : (first old asked told : AdviceLogState) (s s' v : StatedSetup) (h h' : List Entry) (t : Tid) (env : Option EnvId) (call : Call) (entry : Entry)
    (n : ℕ) → Follows first old s h
    → verdict s (parts s h) t.0 env call ≡ None → n ≡ length h + 1 → v ≡ s
    → ((hist : List Moment) → LogStands old hist → (m : Moment) × IsQuestion v (parts s h) n t call m × LogStands asked (m ∷ hist))
    → ((hist : List Moment) → LogStands asked hist
    → LogStands told (with_facts n (parts s' h') (reverse (outcome_facts s (parts s h) entry.tid entry.call entry.outcome entry.object)) hist))
    → s' ≡ s → h' ≡ entry_at s (parts s h) t env call ∷ h → entry ≡ entry_at s (parts s h) t env call → told.adviser.most ≡ old.adviser.most
    → told.noting.all ≡ old.noting.all
    → Follows first told s' h'
took first old asked told s s' v h h' t env call entry n follows passes number seen ask tell setup journal is most all =
    let p : Parts = parts s h in
    let e : Entry = entry_at s p t env call in
    let before : List Moment = follows.logged.0 in
    let asks = ask before follows.logged.2 in
    let m : Moment = asks.0 in
    let own : IsQuestion s p (length h + 1) t call m =
    subst (λ (k : ℕ). IsQuestion s p k t call m) number (subst (λ (w : StatedSetup). IsQuestion w p n t call m) seen asks.1) in
    let facts : Entry → List Fact = λ x. reverse (outcome_facts s p x.tid x.call x.outcome x.object) in
    let tells = tell (m ∷ before) asks.2 in
    let moments : List Moment = with_facts (length h + 1) (parts s (e ∷ h)) (facts e) (m ∷ before) in
    let stands : LogStands told moments =
    subst (λ (k : ℕ). LogStands told (with_facts k (parts s (e ∷ h)) (facts e) (m ∷ before))) number
    (subst (λ (w : StatedSetup). LogStands told (with_facts n (parts w (e ∷ h)) (facts e) (m ∷ before))) setup
    (subst (λ (j : List Entry). LogStands told (with_facts n (parts s' j) (facts e) (m ∷ before))) journal
    (subst (λ (x : Entry). LogStands told (with_facts n (parts s' h') (facts x) (m ∷ before))) is tells))) in
    let are : AreMoments s (e ∷ h) moments = passed s h t env call before follows.logged.1 m passes own in
    record {
      logged = (
        moments,
        subst (λ (w : StatedSetup). AreMoments w h' moments) (sym setup) (subst (λ (j : List Entry). AreMoments s j moments) (sym journal) are),
        stands,
      );
      most = most ∙ follows.most;
      all = all ∙ follows.all;
    }
