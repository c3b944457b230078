use Rattle.jg_program.proofs.Beside.{stood}
use Rattle.jg_program.proofs.program.answer_lines.Goals as goal

pub returns-in_default-clause-beside : goal.returns-in_default-clause-beside
returns-in_default-clause-beside g c =
    λ r stands. stood r c.args.beside.now c.check_beside-checked.new.beside c.args.guard.now.setup c.check_beside-checked.new.guard.setup
    c.check_beside-checked.new.guard.journal c.check_beside-checked.ensures.follows stands

pub returns-in-Ok-checked-clause-beside : goal.returns-in-Ok-checked-clause-beside
returns-in-Ok-checked-clause-beside g c =
    λ r stands. stood r c.args.beside.now c.check_beside-checked.new.beside c.args.guard.now.setup c.check_beside-checked.new.guard.setup
    c.check_beside-checked.new.guard.journal c.check_beside-checked.ensures.follows stands

pub returns-in-Err-clause-beside : goal.returns-in-Err-clause-beside
returns-in-Err-clause-beside g c =
    λ r stands. stood r c.args.beside.now c.check_beside-checked.new.beside c.args.guard.now.setup c.check_beside-checked.new.guard.setup
    c.check_beside-checked.new.guard.journal c.check_beside-checked.ensures.follows stands
