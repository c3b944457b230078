-- The lines of one entry.
use Rattle.std.proofs.Common.{◌≡◌, ◌∙◌, ℕ, List, ap, sym, subst}
use Rattle.jg_words.specs.Entry.{Entry}
use Rattle.jg_policy.specs.Stated.{StatedSetup}
use Rattle.jg_rules.specs.Parts.{Parts}
use Rattle.jg_rules.specs.Effects.{parts}
use Rattle.jg_entry_facts.specs.declared.foreseen.Foreseen.{Foreseen}
use Rattle.jg_entry_facts.specs.Foreseen.{Foresees}
use Rattle.jg_journal_record.specs.Retold.{AddsEntry, AddsQuestion, AddsTold}

-- the question was asked and the facts were foreseen by what a guard has, and they were told under a setup, which all are those of the journal
pub entry_so : {A : Type 0} (whole : StatedSetup) (before : List Entry) (again asked_by told_by : StatedSetup) (journal : List Entry) (x : Entry)
    (seen : Foreseen A) (old asked new : List ℕ)
    → again ≡ whole → journal ≡ before → asked_by ≡ again → told_by ≡ whole → AddsQuestion asked_by (parts again journal) x old asked
    → Foresees asked_by (parts again journal) x.tid x.call seen → ((p : Parts) → Foresees told_by p x.tid x.call seen → AddsTold told_by p x asked new)
    → AddsEntry whole (parts whole before) x old new
entry_so whole before again asked_by told_by journal x seen old asked new again_is journal_is asked_is told_is question foreseen tells =
    let p : Parts = parts whole before in
    let same : parts again journal ≡ p = ap (λ (s : StatedSetup). parts s journal) again_is ∙ ap (λ (h : List Entry). parts whole h) journal_is in
    let first : asked_by ≡ whole = asked_is ∙ again_is in
    let known : Foresees told_by p x.tid x.call seen =
    subst (λ (s : StatedSetup). Foresees s p x.tid x.call seen) (first ∙ sym told_is)
    (subst (λ (q : Parts). Foresees asked_by q x.tid x.call seen) same foreseen) in (
      asked,
      subst (λ (s : StatedSetup). AddsQuestion s p x old asked) first (subst (λ (q : Parts). AddsQuestion asked_by q x old asked) same question),
      subst (λ (s : StatedSetup). AddsTold s p x asked new) told_is (tells p known),
    )
