use Rattle.std.proofs.Common.{◌<◌, ◌^◌, arith}
use Rattle.jg_text.proofs.Plain.{always}
use Rattle.jg_text.proofs.word.push_ref.Goals as goal

pub returns-in-To-clause-fits : goal.returns-in-To-clause-fits
returns-in-To-clause-fits c =
    let maker : c.in-To.maker.0 < 2 ^ 16 = omega arith in
    let n : c.in-To.n < 2 ^ 64 = omega arith in
    always c.push_lettered.result (rw c.in-To.is (maker, n))
