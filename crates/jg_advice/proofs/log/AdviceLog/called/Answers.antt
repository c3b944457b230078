use Rattle.std.proofs.Common.{◌≡◌, ◌++◌, List, false, refl, ◌∙◌, ap, sym, subst}
use Rattle.jg_advice.specs.declared.advice.Advice.{Advice}
use Rattle.jg_advice.specs.Advised.{on_call}
use Rattle.jg_advice.specs.Moments.{Called, Moment}
use Rattle.jg_advice.specs.Told.{AdviceLogState, LogStands}
use Rattle.jg_advice.proofs.Logs.{notes_more}
use Rattle.jg_advice.proofs.log.AdviceLog.called.Goals as goal

pub returns-in-Ok-clause-logs : goal.returns-in-Ok-clause-logs
returns-in-Ok-clause-logs g c = λ h p logs tells.
    let before : LogStands (record { adviser = c.self.inside.adviser; lost = c.self.inside.lost; noting = c.self.inside.advices }) h =
    subst (λ (v : AdviceLogState). LogStands v h) (sym c.self.view_is) logs in
    let m : Moment = record {
      line = c.args.line;
      what =
          Called c.args.view.now.setup.now c.args.tid c.args.function c.args.arguments.now c.args.name.now;
      parts = p;
    } in
    let newer : List Advice = on_call c.args.line c.args.tid c.args.function c.args.arguments.now c.args.name.now p h in
    let free : c.self.inside.lost ≡ false = c.if-self.false in
    record {
      stands = λ kept. c.in-Ok.ensures.stands h p (before.stands free) tells;
      notes = λ kept. notes_more c.self.inside.adviser c.called-called.new.self c.self.inside.advices c.note_all.new.advices h m newer c.deref.result.now
          c.called-called.ensures.most
          (c.deref.ensures.value ∙ c.in-Ok.ensures.advised h p (before.stands free) tells ∙ ap (λ l. l ++ newer) c.clear.ensures.items)
          refl (before.notes free) c.note_all.ensures.noted;
    }
