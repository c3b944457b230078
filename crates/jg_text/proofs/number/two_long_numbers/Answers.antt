use Rattle.std.proofs.Common.{sym, ◌∙◌, arith}
use Rattle.std.specs.Fmt.{decimal}
use Rattle.jg_text.proofs.Numbers.{clean_decimal}
use Rattle.jg_text.proofs.Cuts.{same_cut, no_cut}
use Rattle.jg_text.proofs.number.two_long_numbers.Goals as goal

pub returns-in_default-clause-none : goal.returns-in_default-clause-none
returns-in_default-clause-none c = λ a b a_fits b_fits e.
    no_cut 46 c.args.text.now (decimal a) (decimal b) c.in_default.ensures.none (clean_decimal 46 a (omega arith) (omega arith)) e

pub returns-in_default-read_number-clause-none : goal.returns-in_default-read_number-clause-none
returns-in_default-read_number-clause-none c = λ a b a_fits b_fits e.
    let cut = c.in-Some.ensures.some in
    let same = same_cut 46 c.in-Some.front.now c.in-Some.back.now (decimal a) (decimal b) cut.1 (clean_decimal 46 a (omega arith) (omega arith)) (sym cut.0 ∙ e)
    in
    c.in_default-read_number.ensures.none a a_fits same.0

pub returns-in-None-clause-none : goal.returns-in-None-clause-none
returns-in-None-clause-none c = λ a b a_fits b_fits e.
    let cut = c.in-Some.ensures.some in
    let same = same_cut 46 c.in-Some.front.now c.in-Some.back.now (decimal a) (decimal b) cut.1 (clean_decimal 46 a (omega arith) (omega arith)) (sym cut.0 ∙ e)
    in
    c.in-None.ensures.none b b_fits same.1
