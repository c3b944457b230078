use Rattle.jg_program.proofs.Records.{asked_for, ended_answered, stopped_answered}
use Rattle.jg_program.proofs.watching.answer_lines.Goals.{in-Ok, in-Err}
use Rattle.jg_program.proofs.watching.answer_lines.Goals as goal

pub returns-in-Ok-flush-clause-answers : goal.returns-in-Ok-flush-clause-answers
returns-in-Ok-flush-clause-answers g c =
    elim c.match-answered.branch [
      | in-Ok w ↦
          ended_answered _ c.args.shown _ _ _ w.deref.result.now _ _ _ _ _ _ _ c.watch_lines-answered.result w.in-Ok.ended w.write_ended-written.result
          c.match-answered.written _ _
          c.watch_lines-answered.ensures.watches w.in-Ok.is w.deref.ensures.value w.write_ended-written.ensures.written w.write_ended-written.ensures.same
          w.write_ended-written.ensures.failed
          w.written-is (rw w.out-is at c.in-Ok-flush.ensures.kept)
      | in-Err w ↦
          stopped_answered _ c.args.shown _ _ _ _ _ _ _ _ _ c.watch_lines-answered.result w.in-Err.stop c.match-answered.written
          c.watch_lines-answered.ensures.watches w.in-Err.is w.written-is
          (rw w.out-is at c.in-Ok-flush.ensures.kept)
    ]

pub returns-in-Ok-flush-clause-lost : goal.returns-in-Ok-flush-clause-lost
returns-in-Ok-flush-clause-lost g c =
    asked_for _ c.args.shown _ _ _ _ _ _ _ _ _ c.watch_lines-answered.result c.watch_lines-answered.ensures.watches c.watch_lines-answered.ensures.most

pub returns-in-Err-flush-clause-lost : goal.returns-in-Err-flush-clause-lost
returns-in-Err-flush-clause-lost g c =
    asked_for _ c.args.shown _ _ _ _ _ _ _ _ _ c.watch_lines-answered.result c.watch_lines-answered.ensures.watches c.watch_lines-answered.ensures.most
