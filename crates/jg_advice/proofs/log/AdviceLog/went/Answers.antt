use Rattle.std.proofs.Common.{◌≡◌, [], false, refl, sym, subst}
use Rattle.jg_advice.specs.Moments.{Moment, Went}
use Rattle.jg_advice.specs.Told.{AdviceLogState, LogStands}
use Rattle.jg_advice.proofs.Logs.{notes_more}
use Rattle.jg_advice.proofs.log.AdviceLog.went.Goals as goal

pub returns-in-Ok-clause-logs : goal.returns-in-Ok-clause-logs
returns-in-Ok-clause-logs c = λ h p logs.
    let before : LogStands (record { adviser = c.self.inside.adviser; lost = c.self.inside.lost; noting = c.self.inside.advices }) h =
    subst (λ (v : AdviceLogState). LogStands v h) (sym c.self.view_is) logs in
    let m : Moment = record { line = c.args.line; what = Went c.args.objects.now; parts = p } in
    let free : c.self.inside.lost ≡ false = c.if-self.false in
    record {
      stands = λ kept. c.in-Ok.ensures.stands h p (before.stands free);
      notes = λ kept. notes_more c.self.inside.adviser c.went.new.self c.self.inside.advices c.self.inside.advices h m [] [] c.went.ensures.most refl refl
          (before.notes free) (λ older noted. noted);
    }
