use Rattle.jg_guard.proofs.settle.settle_global.Goals as goal

pub returns-in_ok-make_strong-in-Global-clause-stands : goal.returns-in_ok-make_strong-in-Global-clause-stands
returns-in_ok-make_strong-in-Global-clause-stands g c = λ setup p stands. rw (
  c.in-Reference.is,
  c.in-To-Some.is-0,
  c.in-To-Some.is-1,
  c.in-Global.is,
) (c.in_ok-make_strong-in-Global.ensures.stands setup p stands)

pub returns-in_ok-make_weak-in-Weak-clause-stands : goal.returns-in_ok-make_weak-in-Weak-clause-stands
returns-in_ok-make_weak-in-Weak-clause-stands g c = λ setup p stands. rw (
  c.in-Reference.is,
  c.in-To-Some.is-0,
  c.in-To-Some.is-1,
  c.in-Weak.is,
) (c.in_ok-make_weak-in-Weak.ensures.stands setup p stands)
