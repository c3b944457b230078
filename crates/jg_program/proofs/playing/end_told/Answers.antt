use Rattle.std.proofs.Common.{◌≡◌, ℕ, List, []}
use Rattle.jg_program.proofs.Reports.{reported_on}
use Rattle.jg_program.proofs.playing.end_told.Goals as goal

pub returns-clause-handed_on : goal.returns-clause-handed_on
returns-clause-handed_on g c =
    let guard = c.args.finished.guard in
    reported_on _ c.hand_out_told-ended.new.out.failed (λ (about : List ℕ). about ≡ []) c.args.reporting guard.setup guard.journal c.hand_out_told-ended.result
    c.report.result c.report.ensures
    c.hand_out_told-ended.ensures.handed_on
