use Rattle.jg_guard.proofs.settle.settle.Goals as goal

pub returns-in-Local-clause-stands : goal.returns-in-Local-clause-stands
returns-in-Local-clause-stands g c =
    λ setup p stands. rw (c.in-Reference.is, c.in-To-Some.is-0, c.in-To-Some.is-1, c.in-Local.is) (c.hand_out.ensures.stands setup p stands)
