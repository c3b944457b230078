use Rattle.std.proofs.Common.{subst, Some}
use Rattle.jg_shell.specs.Work.{Work}
use Rattle.jg_shell.specs.Played.{Ran}
use Rattle.jg_shell.proofs.Runs.{IsAt-line, Ran-cut}
use Rattle.jg_shell.proofs.worker.Worker.run.Goals as goal

pub returns-in-Err : goal.returns-in-Err
returns-in-Err g c =
    subst (λ (w : Work). Ran c.args.turns w
    (record { tid = c.play_line.new.self.tid; lines = c.self.inside.lines.items; receipts = c.play_line.new.self.receipts; stopped = Some c.in-Err.stop }))
    c.self.view_is
    (Ran-cut c.args.turns c.deref-line-items.result.now c.self.inside.lines.items c.loop-index.index c.self.inside.account c.loop-index.account
    c.play_line.new.self c.line-item.result
    c.self.inside.stopped c.in-Err.stop c.requires c.deref-line-items.ensures.value c.loop-index-test.true c.line-item.is c.loop-index.invariant.0
    c.in-Err.ensures.err)

pub loop-index-preserved : goal.loop-index-preserved
loop-index-preserved g c = (
  IsAt-line c.args.turns c.deref-line-items.result.now c.loop-index.index c.self.inside.account c.loop-index.account c.play_line.new.self c.line-item.result
      c.loop-index-test.true c.line-item.is
      c.loop-index.invariant.0 c.in_default.ensures.ok,
  c.loop-index.invariant.1,
)
