use Rattle.jg_program.proofs.Denied.{fewer_pass}
use Rattle.jg_program.proofs.reporting.any_denied.Goals as goal

pub returns : goal.returns
returns c = rw (c.passed.ensures, c.journal_len.ensures.len) (fewer_pass c.args.guard.now.journal)
