use Rattle.jg_guard.proofs.settle.throw_if.Goals as goal

pub returns-in_ok-throw-in-Some-clause-stands : goal.returns-in_ok-throw-in-Some-clause-stands
returns-in_ok-throw-in-Some-clause-stands g c = λ setup p stands. rw (c.in-Throw.is, c.in-Some.is) (c.in_ok-throw-in-Some.ensures.stands setup p stands)
