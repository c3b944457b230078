-- What the record of a history tells.
use Rattle.std.proofs.Common.{◌≡◌, ◌∙◌, ℕ, List, [], ◌∷◌, ◌++◌, refl, ap, sym, subst, append_assoc}
use Rattle.std.specs.Prelude.{reverse}
use Rattle.std.proofs.lemmas.List.{append-nil, reverse-append}
use Rattle.jg_words.specs.declared.thread.Tid.{Tid}
use Rattle.jg_rules.specs.Effects.{parts}
use Rattle.jg_core.specs.declared.fact.Fact.{Fact}
use Rattle.jg_record.specs.declared.event.Event.{Event}
use Rattle.jg_entry_facts_laws.specs.Entries.{facts_of, outcome_facts}
use Rattle.jg_journal_record.specs.Lines.{Line, AreLines, Tell, facts_in, facts_told}
use Rattle.jg_journal_record.specs.Laws.{RecordsTellFacts}
use Rattle.jg_journal_record.proofs.Tellings.{lines_append}

told_append : (xs ys : List Line) → facts_told (xs ++ ys) ≡ facts_told xs ++ facts_told ys
told_append [] ys = refl
told_append (x ∷ xs) ys = ap (λ (facts : List Fact). facts_in x.event x.gone ++ facts) (told_append xs ys)
    ∙ sym (append_assoc (facts_in x.event x.gone) (facts_told xs) (facts_told ys))

tell_so : (by : Tid) (lines : List Line) (facts : List Fact) → Tell by lines facts → facts_told lines ≡ facts
tell_so by [] facts none = sym none
tell_so by (line ∷ lines) facts (own, telling, rest, tell, is) = ap (λ (more : List Fact). facts_in line.event line.gone ++ more) (tell_so by lines rest tell) ∙ sym is

pub records_tell_facts : RecordsTellFacts
records_tell_facts s [] text none = ([], none, refl)
records_tell_facts s (x ∷ h) text (front, before, (asked, (question, is, (own, spelt, first)), (facts, tell, more, are, rest))) =
    let (lines, front_is, told) = records_tell_facts s h front before in
    let new : List Fact = outcome_facts s (parts s h) x.tid x.call x.outcome x.object in
    let with_question : AreLines s (lines ++ question ∷ []) (front ++ (own ++ 10 ∷ [])) =
    lines_append s lines (question ∷ []) front (own ++ 10 ∷ []) front_is (own, [], spelt, refl, refl) in
    let with_facts : AreLines s ((lines ++ question ∷ []) ++ facts) ((front ++ (own ++ 10 ∷ [])) ++ more) =
    lines_append s (lines ++ question ∷ []) facts (front ++ (own ++ 10 ∷ [])) more with_question are in
    let text_is : text ≡ (front ++ (own ++ 10 ∷ [])) ++ more = rest ∙ ap (λ (t : List ℕ). t ++ more) first in
    let silent : facts_told (question ∷ []) ≡ [] = ap (λ (e : Event). facts_in e question.gone ++ []) is.asks in (
      (lines ++ question ∷ []) ++ facts,
      subst (λ (t : List ℕ). AreLines s ((lines ++ question ∷ []) ++ facts) t) (sym text_is) with_facts,
      told_append (lines ++ question ∷ []) facts
          ∙ (ap (λ (t : List Fact). t ++ facts_told facts)
          (told_append lines (question ∷ []) ∙ (ap (λ (t : List Fact). facts_told lines ++ t) silent ∙ append-nil (facts_told lines)))
          ∙ (ap (λ (t : List Fact). facts_told lines ++ t) (tell_so x.tid facts (reverse new) tell)
          ∙ (ap (λ (t : List Fact). t ++ reverse new) told ∙ sym (reverse-append new (facts_of s h))))),
    )
