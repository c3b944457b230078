use Rattle.jg_program.proofs.Retold.{read_on, read_told, stops_told}
use Rattle.jg_program.proofs.journal_record.tell_lines.Goals as goal

pub returns-in-Ok-clause-tells : goal.returns-in-Ok-clause-tells
returns-in-Ok-clause-tells g c =
    read_told c.args.guard.now.setup c.args.guard.now.limit c.retell_journal.new.guard.journal _ _ _ _ _ c.in-Ok.read c.say.result c.in-Ok.ensures.retells
    c.say.ensures.said

pub returns-clause-tells : goal.returns-clause-tells
returns-clause-tells g c =
    stops_told c.args.guard.now.setup c.retell_journal.new.guard.setup c.args.guard.now.limit c.retell_journal.new.guard.journal _ _ _ _ c.in-Err.fault
    c.run_fault.result
    c.retell_journal.ensures.setup c.in-Err.ensures.stops c.run_fault.ensures

pub returns-in-Ok-clause-handed_on : goal.returns-in-Ok-clause-handed_on
returns-in-Ok-clause-handed_on g c =
    read_on c.args.guard.now.setup c.args.guard.now.limit _ _ _ _ _ c.say.new.out.failed c.in-Ok.read c.say.result c.in-Ok.ensures.retells c.say.ensures.said
    c.say.ensures.handed_on
