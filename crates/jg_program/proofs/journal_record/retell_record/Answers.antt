use Rattle.std.proofs.Common.{Err}
use Rattle.jg_program.proofs.Retold.{ends_facts}
use Rattle.jg_program.proofs.journal_record.retell_record.Goals as goal

pub returns-clause-ends : goal.returns-clause-ends
returns-clause-ends g c =
    ends_facts c.args.setup c.in-Ok.guard.setup c.args.limit c.in-Ok.guard.limit _ _ _ _ c.retell_lines.new.guard.journal
    (Err c.in-Err.stop) c.quietly-in-Err.result
    c.in-Ok.ensures.setup c.in-Ok.ensures.limit c.in-Err.ensures.retells c.quietly-in-Err.ensures.ended c.quietly-in-Err.ensures.said
