use Rattle.jg_program.proofs.Retold.{differs_behind}
use Rattle.jg_program.proofs.journal_record.say.Goals as goal

pub returns-in-Ok-write_difference-clause-said : goal.returns-in-Ok-write_difference-clause-said
returns-in-Ok-write_difference-clause-said g c =
    (c.in-Ok.is, differs_behind _ _ _ c.in-Differs.line c.in-Ok.replayed c.in-Differs.is c.verdict.ensures c.in-Ok-write_difference.ensures.written)
