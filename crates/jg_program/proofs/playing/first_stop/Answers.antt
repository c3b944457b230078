use Rattle.std.proofs.Common.{◌∙◌}
use Rattle.jg_program.proofs.Workers.{first_stop-next}
use Rattle.jg_program.proofs.playing.first_stop.Goals as goal

pub returns-in-Some : goal.returns-in-Some
returns-in-Some g c =
    let next = first_stop-next c.args.workers.now c.loop-worker.worker-index c.worker-item.result c.loop-worker-test.true c.worker-item.is in
    let whole = c.loop-worker.invariant ∙ next in
    cc

pub loop-worker-preserved : goal.loop-worker-preserved
loop-worker-preserved g c =
    let next = first_stop-next c.args.workers.now c.loop-worker.worker-index c.worker-item.result c.loop-worker-test.true c.worker-item.is in
    let whole = c.loop-worker.invariant ∙ next in
    cc
