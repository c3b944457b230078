use Rattle.std.proofs.Common.{◌≡◌, false, List, sym, subst, arith, take_all}
use Rattle.jg_shell.specs.Work.{Work}
use Rattle.jg_shell.specs.Finish.{is_told}
use Rattle.jg_shell.proofs.compare.is_told.Goals as goal

pub returns : goal.returns
returns g c =
    let all = take_all c.loop-worker.worker-index c.args.workers.now (omega arith) in
    sym (subst (λ (ws : List Work). is_told ws c.args.tid c.args.place ≡ false) all c.loop-worker.invariant)
