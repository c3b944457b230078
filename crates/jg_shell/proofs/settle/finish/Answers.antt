use Rattle.std.proofs.Common.{List, subst}
use Rattle.jg_shell.specs.Work.{Work}
use Rattle.jg_shell.specs.Finish.{IsAllTold}
use Rattle.jg_shell.proofs.Settled.{own_settled, known_settled}
use Rattle.jg_shell.proofs.Counts.{settled_count}
use Rattle.jg_shell.proofs.settle.finish.Goals as goal

pub returns-in-None-clause-told : goal.returns-in-None-clause-told
returns-in-None-clause-told g c =
    own_settled c.into_guard-guard.result.journal c.args.workers.items c.requires
    (subst (λ (ws : List Work). IsAllTold c.into_guard-guard.result.journal ws) c.as_slice.ensures.value c.in-None.ensures)

pub returns-in-None-clause-known : goal.returns-in-None-clause-known
returns-in-None-clause-known g c =
    known_settled c.into_guard-guard.result.journal c.args.workers.items
    (subst (λ (ws : List Work). IsAllTold c.into_guard-guard.result.journal ws) c.as_slice.ensures.value c.in-None.ensures)

pub returns-in-None-clause-count : goal.returns-in-None-clause-count
returns-in-None-clause-count g c =
    settled_count c.into_guard-guard.result.journal c.args.workers.items c.requires
    (subst (λ (ws : List Work). IsAllTold c.into_guard-guard.result.journal ws) c.as_slice.ensures.value c.in-None.ensures)
