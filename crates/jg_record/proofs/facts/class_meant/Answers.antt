use Rattle.std.proofs.Common.{sym, ◌∙◌, arith}
use Rattle.std.proofs.lemmas.Fmt.{decimal_injective}
use Rattle.jg_record.proofs.Told.{no_class}
use Rattle.jg_record.proofs.facts.class_meant.Goals as goal

pub returns-in_default-read_natural-clause-none : goal.returns-in_default-read_natural-clause-none
returns-in_default-read_natural-clause-none c =
    no_class c.args.setup.now c.args.word.now (sym c.own_named.ensures ∙ c.in_default.is) (λ n below e.
    let same = decimal_injective c.in-Some-read_natural.class n (omega arith)
    (omega (arith, below, c.class_count-count.ensures.count, c.class_count-count.ensures.within)) (sym c.in-Some-read_natural.ensures.some ∙ e) in
    absurd (omega (arith, below, same, c.class_count-count.ensures.count, c.if-class-count.false)))

pub returns-in_default-read_natural-2-clause-none : goal.returns-in_default-read_natural-2-clause-none
returns-in_default-read_natural-2-clause-none c =
    no_class c.args.setup.now c.args.word.now (sym c.own_named.ensures ∙ c.in_default.is) (λ n below e.
    c.in_default-read_natural.ensures.none n (omega (arith, below, c.class_count-count.ensures.count, c.class_count-count.ensures.within)) e)
