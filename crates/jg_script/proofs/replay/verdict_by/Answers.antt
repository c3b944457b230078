use Rattle.std.proofs.Common.{Ok, Err}
use Rattle.jg_script.proofs.Reread.{verdict_found}
use Rattle.jg_script.proofs.replay.verdict_by.Goals as goal

pub returns-in-Ok-clause-verifies : goal.returns-in-Ok-clause-verifies
returns-in-Ok-clause-verifies g c =
    let told = c.replay_journal.new in
    rw c.verdict.ensures (verdict_found _ _ _ _ told.guard.journal told.text.items (Ok c.in-Ok.replayed) c.in-Ok.ensures.replays)

pub returns-in-Err-clause-verifies : goal.returns-in-Err-clause-verifies
returns-in-Err-clause-verifies g c =
    let told = c.replay_journal.new in
    verdict_found _ _ _ _ told.guard.journal told.text.items (Err c.in-Err.fault) c.in-Err.ensures.replays
