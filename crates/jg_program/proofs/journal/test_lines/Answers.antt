use Rattle.jg_program.proofs.Beside.{stood}
use Rattle.jg_program.proofs.journal.test_lines.Goals as goal

pub returns-in-Ok-flush-clause-beside : goal.returns-in-Ok-flush-clause-beside
returns-in-Ok-flush-clause-beside g c =
    λ r stands. stood r c.args.beside.now c.replay_beside.new.beside c.args.guard.now.setup c.replay_beside.new.guard.setup c.replay_beside.new.guard.journal
    c.replay_beside.ensures.follows stands

pub returns-in-Err-flush-clause-beside : goal.returns-in-Err-flush-clause-beside
returns-in-Err-flush-clause-beside g c =
    λ r stands. stood r c.args.beside.now c.replay_beside.new.beside c.args.guard.now.setup c.replay_beside.new.guard.setup c.replay_beside.new.guard.journal
    c.replay_beside.ensures.follows stands
