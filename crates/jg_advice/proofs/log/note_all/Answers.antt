use Rattle.std.proofs.Common.{◌≡◌, ◌++◌, ◌∷◌, [], length, rules, ◌∙◌, ap, sym, subst}
use Rattle.std.specs.Prelude.{reverse}
use Rattle.std.proofs.lemmas.List.{append_assoc, reverse-append}
use Rattle.jg_advice.specs.Noted.{IsNoted}
use Rattle.jg_advice.proofs.Steps.{none_left}
use Rattle.jg_advice.proofs.log.note_all.Goals as goal

-- one more is noted
pub loop-advice-preserved : goal.loop-advice-preserved
loop-advice-preserved c = (
  λ older noted.
      let before = c.loop-advice.invariant.0 older noted in
      let rest : c.loop-advice.rest.now ≡ c.in-Some.advice.now ∷ c.in-Some.later.now = search rules in
      let turned : reverse c.loop-advice.rest.now ≡ reverse c.in-Some.later.now ++ c.in-Some.advice.now ∷ [] =
      ap reverse rest ∙ reverse-append (c.in-Some.advice.now ∷ []) c.in-Some.later.now in (
        c.in-Some.advice.now ∷ before.0,
        c.note.ensures.noted before.0 before.1,
        sym (append_assoc (reverse c.in-Some.later.now) (c.in-Some.advice.now ∷ []) before.0)
            ∙ ap (λ l. l ++ before.0) (sym turned) ∙ before.2,
      ),
  c.note.ensures.all ∙ c.loop-advice.invariant.1,
)

-- none is left
pub returns-clause-noted : goal.returns-clause-noted
returns-clause-noted c = λ older noted.
    let before = c.loop-advice.invariant.0 older noted in
    let none : length c.loop-advice.rest.now ≡ 0 = search rules in
    subst (IsNoted c.loop-advice.advices) (ap (λ l. l ++ before.0) (sym (none_left c.loop-advice.rest.now none)) ∙ before.2) before.1
