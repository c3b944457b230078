use Rattle.std.proofs.Common.{sym, ◌∙◌, arith}
use Rattle.std.proofs.lemmas.Fmt.{decimal_injective}
use Rattle.jg_record.proofs.word.read_natural.Goals as goal

pub returns-in_default-clause-none : goal.returns-in_default-clause-none
returns-in_default-clause-none c = λ n small e.
    let same = decimal_injective c.in-Some.n n (omega arith) (omega arith) (sym c.in-Some.ensures.some ∙ e) in absurd (omega arith)
