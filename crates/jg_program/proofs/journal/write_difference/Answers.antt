use Rattle.jg_program.proofs.Saying.{difference_written}
use Rattle.jg_program.proofs.journal.write_difference.Goals as goal

pub returns-clause-written : goal.returns-clause-written
returns-clause-written g c =
    difference_written _ _ _ _ c.args.line _ c.in_ok-write_text.ensures.written c.in_ok-write_number.ensures.written c.write_text-2.ensures.written
