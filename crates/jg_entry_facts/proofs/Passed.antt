-- The facts of a call that passed are those of its entry.
use Rattle.std.proofs.Common.{◌≡◌, ℕ, Bool, List, ◌++◌, Option, Some, refl, ap, ◌∙◌}
use Rattle.std.specs.Prelude.{reverse}
use Rattle.jg_words.specs.declared.thread.Tid.{Tid}
use Rattle.jg_words.specs.declared.object.ObjId.{ObjId}
use Rattle.jg_words.specs.declared.value.Value.{Value}
use Rattle.jg_words.specs.declared.call.Call.{Call}
use Rattle.jg_words.specs.declared.entry.Outcome.{Outcome}
use Rattle.jg_words.specs.declared.entry.Outcome.TheVariants.{Passed, Denied}
use Rattle.jg_words.specs.Entry.{Entry, value_in, is_warned}
use Rattle.jg_policy.specs.Stated.{StatedSetup}
use Rattle.jg_rules.specs.Parts.{Parts}
use Rattle.jg_rules.specs.Effects.{is_effective, if_effective, warning}
use Rattle.jg_core.specs.declared.fact.Fact.{Fact}
use Rattle.jg_entry_facts_laws.specs.Entries.{answer_facts, link_facts, outcome_facts}
use Rattle.jg_entry_facts.specs.declared.foreseen.Foreseen.{Foreseen}
use Rattle.jg_entry_facts.specs.Foreseen.{Foresees, own_told}
use Rattle.jg_entry_facts.proofs.InOrder.{all_in_order}

passed_told : {A : Type 0} (s : StatedSetup) (p : Parts) (t : Tid) (call : Call) (outcome : Outcome) (o : Option ObjId) (seen : Foreseen A) (value : Value)
    → Foresees s p t call seen
    → value_in outcome ≡ Some value
    → link_facts (warning (is_warned outcome) seen.home)
    ++ (answer_facts call t value o ++ if_effective (is_effective value) (own_told seen.own seen.gone.items t o))
    ≡ outcome_facts s p t call outcome o
passed_told s p t call (Passed reply) o seen value foreseen is =
    let same : reply.value ≡ value = cc in
    rw (← same, foreseen.home, foreseen.own o) refl
passed_told s p t call (Denied rule) o seen value foreseen is = absurd cc

-- what is told of the entry, in three steps, by what its readers answered
pub passed_so : {A : Type 0} (s : StatedSetup) (p : Parts) (x : Entry) (seen : Foreseen A) (call : Call) (t : Tid) (o : Option ObjId) (value : Value)
    (warned : Bool) (gone : List ℕ)
    (before did answered after : List Fact) → Foresees s p x.tid x.call seen → value_in x.outcome ≡ Some value → call ≡ x.call → t ≡ x.tid → o ≡ x.object
    → warned ≡ is_warned x.outcome
    → gone ≡ seen.gone.items → did ≡ before ++ reverse (if_effective (is_effective value) (own_told seen.own gone t o))
    → answered ≡ did ++ reverse (answer_facts call t value o)
    → after ≡ answered ++ reverse (link_facts (warning warned seen.home))
    → after ≡ before ++ reverse (outcome_facts s p x.tid x.call x.outcome x.object)
passed_so s p x seen call t o value warned gone before did answered after foreseen passed call_is t_is o_is warned_is gone_is did_is answered_is after_is =
    let own : List Fact = if_effective (is_effective value) (own_told seen.own gone t o) in
    let brought : List Fact = answer_facts call t value o in
    let warns : List Fact = link_facts (warning warned seen.home) in
    let all : warns ++ (brought ++ own) ≡ outcome_facts s p x.tid x.call x.outcome x.object =
    rw (call_is, t_is, o_is, warned_is, gone_is) (passed_told s p x.tid x.call x.outcome x.object seen value foreseen passed) in
    after_is
    ∙ (ap (λ (xs : List Fact). xs ++ reverse warns) (answered_is ∙ ap (λ (xs : List Fact). xs ++ reverse brought) did_is)
    ∙ (all_in_order before own brought warns ∙ ap (λ (xs : List Fact). before ++ reverse xs) all))
