use Rattle.jg_text.proofs.Firsts.{one_read, one_fault}
use Rattle.jg_text.proofs.operand.read_one.Goals as goal

pub returns-in-Some-clause-ok : goal.returns-in-Some-clause-ok
returns-in-Some-clause-ok g c =
    rw c.in-Some.is (one_read c.read.result g.A.OperandText.spelt g.A.OperandText.fits g.A.OperandText.kind c.in-Some.text.now c.read.ensures.ok
    c.read.ensures.kind)

pub returns-in-Some-clause-err : goal.returns-in-Some-clause-err
returns-in-Some-clause-err g c = rw c.in-Some.is (one_fault c.read.result g.A.OperandText.kind c.in-Some.text.now c.read.ensures.err)
