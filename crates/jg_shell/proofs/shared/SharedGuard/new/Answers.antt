use Rattle.std.proofs.Common.{List, sym, subst}
use Rattle.jg_shell.specs.Work.{Work, AreApart}
use Rattle.jg_shell.proofs.Apart.{fresh_apart}
use Rattle.jg_shell.proofs.shared.SharedGuard.new.Goals as goal

pub returns-clause-apart : goal.returns-clause-apart
returns-clause-apart g c =
    subst (λ (ws : List Work). AreApart ws) (sym c.in_ok-workers.ensures)
    (fresh_apart c.into_lines-threads.result.items c.into_lines-threads.ensures.ascend)
