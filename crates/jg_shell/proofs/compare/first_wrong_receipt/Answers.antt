use Rattle.std.proofs.Common.{◌≡◌, List, take, subst, arith, take_all}
use Rattle.std.specs.Prelude.{All}
use Rattle.std.proofs.lemmas.List.Elements.{All-more}
use Rattle.jg_shell.specs.Work.{Work}
use Rattle.jg_shell.specs.declared.receipt.Receipt.{Receipt}
use Rattle.jg_shell.specs.Finish.{IsRightWorker, IsFirstWrong, Stand}
use Rattle.jg_shell.proofs.Right.{IsWrongReceipt-at}
use Rattle.jg_shell.proofs.compare.first_wrong_receipt.Goals as goal

pub returns-in-Some : goal.returns-in-Some
returns-in-Some g c =
    IsWrongReceipt-at c.args.guard.now.journal c.args.workers.now c.loop-worker.worker-index c.worker-item.result c.tid.result c.in-Some.place
    c.loop-worker-test.true c.worker-item.is
    c.loop-worker.invariant c.tid.ensures
    (subst (λ (rs : List Receipt). IsFirstWrong c.args.guard.now.journal rs c.in-Some.place) c.receipts.ensures.receipts c.in-Some.ensures)

pub loop-worker-preserved : goal.loop-worker-preserved
loop-worker-preserved g c =
    All-more (IsRightWorker c.args.guard.now.journal) c.args.workers.now c.loop-worker.worker-index c.worker-item.result c.loop-worker-test.true
    c.loop-worker.invariant
    (subst (IsRightWorker c.args.guard.now.journal) c.worker-item.is
    (record {
      own = c.receipts.ensures.own;
      stand =
          subst (λ (rs : List Receipt). Stand c.args.guard.now.journal 0 rs) c.receipts.ensures.receipts c.in_default.ensures;
    }))

pub returns : goal.returns
returns g c =
    let all : take c.loop-worker.worker-index c.args.workers.now ≡ c.args.workers.now = take_all c.loop-worker.worker-index c.args.workers.now (omega arith) in
    subst (λ (ws : List Work). All (IsRightWorker c.args.guard.now.journal) ws) all c.loop-worker.invariant
