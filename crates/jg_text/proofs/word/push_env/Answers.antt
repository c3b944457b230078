use Rattle.std.proofs.Common.{◌<◌, ◌^◌, arith}
use Rattle.jg_text.proofs.Plain.{always}
use Rattle.jg_text.proofs.word.push_env.Goals as goal

pub returns-in-Some-clause-fits : goal.returns-in-Some-clause-fits
returns-in-Some-clause-fits c =
    let tid : c.in-Some.env.tid.0 < 2 ^ 16 = omega arith in
    let session : c.in-Some.env.session < 2 ^ 64 = omega arith in
    always c.push_lettered.result (rw c.in-Some.is (tid, session))
