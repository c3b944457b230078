use Rattle.std.proofs.Common.{◌≡◌, ◌++◌, List, false, ◌∙◌, ap, subst, sym}
use Rattle.std.specs.Prelude.{reverse}
use Rattle.jg_advice.specs.declared.advice.Advice.{Advice}
use Rattle.jg_advice.specs.Noted.{IsNoted}
use Rattle.jg_advice.specs.Told.{AreAdvised, AdviceLogState, LogStands}
use Rattle.jg_advice.proofs.log.AdviceLog.note_left.Goals as goal

pub returns-clause-noted : goal.returns-clause-noted
returns-clause-noted c = λ h logs.
    let before : LogStands (record { adviser = c.self.inside.adviser; lost = c.self.inside.lost; noting = c.self.inside.advices }) h =
    subst (λ (v : AdviceLogState). LogStands v h) (sym c.self.view_is) logs in
    let free : c.self.inside.lost ≡ false = c.if-self.false in
    let notes = before.notes free in
    let at_end = c.in_ok-left.ensures h (before.stands free) in
    let given : c.deref.result.now ≡ at_end.0 = c.deref.ensures.value ∙ at_end.2 ∙ ap (λ l. l ++ at_end.0) c.clear.ensures.items in (
      notes.advices,
      at_end.0,
      subst (λ (v : AdviceLogState). AreAdvised v.adviser.most h notes.advices) c.self.view_is notes.advised,
      at_end.1,
      subst (λ (l : List Advice). IsNoted c.note_all.new.advices (reverse l ++ notes.advices)) given (c.note_all.ensures.noted notes.advices notes.noted),
    )
