use Rattle.jg_record.proofs.facts.read_fact.Goals as goal

pub returns-in_err-fact-in-Lent-clause-none : goal.returns-in_err-fact-in-Lent-clause-none
returns-in_err-fact-in-Lent-clause-none c = rw (c.from_residual-in_err-fact-in-Lent.ensures, c.in-Lent.is)
    (λ own e gone (word, family, named, o, fits, via, fits_via, n, below, split, is). c.in_err-fact-in-Lent.ensures.none word family o via n named fits fits_via
    below split)

pub returns-in_err-fact-in-Met-clause-none : goal.returns-in_err-fact-in-Met-clause-none
returns-in_err-fact-in-Met-clause-none c = rw (c.from_residual-in_err-fact-in-Met.ensures, c.in-Met.is)
    (λ own e gone (word, class, means, n, below, split, is). c.in_err-fact-in-Met.ensures.none word class n means below split)
