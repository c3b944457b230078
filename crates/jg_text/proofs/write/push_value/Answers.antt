use Rattle.std.proofs.Common.{FitsSigned, w64, rules}
use Rattle.jg_text.proofs.Plain.{always}
use Rattle.jg_text.proofs.write.push_value.Goals as goal

pub returns-in-Number-clause-fits : goal.returns-in-Number-clause-fits
returns-in-Number-clause-fits c =
    let fits : FitsSigned w64 c.in-Number.n = search rules in
    always c.push_signed.result (rw c.in-Number.is fits)
