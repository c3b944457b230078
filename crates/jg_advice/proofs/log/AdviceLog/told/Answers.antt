use Rattle.std.proofs.Common.{◌≡◌, ◌++◌, false, ◌∙◌, ap, sym, subst}
use Rattle.jg_advice.specs.Moments.{Moment, Told}
use Rattle.jg_advice.specs.Told.{AdviceLogState, LogStands}
use Rattle.jg_advice.proofs.Logs.{notes_more}
use Rattle.jg_advice.proofs.log.AdviceLog.told.Goals as goal

pub returns-in-Ok-clause-logs : goal.returns-in-Ok-clause-logs
returns-in-Ok-clause-logs g c = λ h p logs sees.
    let before : LogStands (record { adviser = c.self.inside.adviser; lost = c.self.inside.lost; noting = c.self.inside.advices }) h =
    subst (λ (v : AdviceLogState). LogStands v h) (sym c.self.view_is) logs in
    let now : Moment = record { line = c.args.line; what = Told c.args.fact; parts = p } in
    let free : c.self.inside.lost ≡ false = c.if-self.false in
    let newer = c.in-Ok.ensures.advised h p (before.stands free) sees in
    record {
      stands = λ kept. c.in-Ok.ensures.stands h p (before.stands free) sees;
      notes = λ kept. notes_more c.self.inside.adviser c.told.new.self c.self.inside.advices c.note_all.new.advices h now newer.0 c.deref.result.now
          c.told.ensures.most
          (c.deref.ensures.value ∙ newer.2 ∙ ap (λ l. l ++ newer.0) c.clear.ensures.items)
          newer.1 (before.notes free) c.note_all.ensures.noted;
    }
