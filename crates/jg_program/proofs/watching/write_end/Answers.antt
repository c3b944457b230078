use Rattle.jg_program.proofs.Records.{differs_said, impossible_said}
use Rattle.jg_program.proofs.watching.write_end.Goals as goal

pub returns-in-Differs-clause-written : goal.returns-in-Differs-clause-written
returns-in-Differs-clause-written g c = differs_said _ _ c.in-Differs.line c.args.ended c.args.text.now _ c.in-Differs.is c.write_difference.ensures.written

pub returns-in_ok-write_text-in-Impossible-3-clause-written : goal.returns-in_ok-write_text-in-Impossible-3-clause-written
returns-in_ok-write_text-in-Impossible-3-clause-written g c =
    impossible_said _ _ _ _ _ _ c.in-Impossible.line c.args.ended c.args.text.now _ _ _ _ c.in-Impossible.is c.cut_line.ensures
    c.in_ok-write_text-in-Impossible.ensures.written
    c.in_ok-write_number-in-Impossible.ensures.written c.in_ok-write_text-in-Impossible-2.ensures.written c.in_ok-write_text-in-Impossible-3.ensures.written
    c.write_text-in-Impossible-3.ensures.written
