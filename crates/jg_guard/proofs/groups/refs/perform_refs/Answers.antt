use Rattle.jg_guard.proofs.groups.refs.perform_refs.Goals as goal

pub returns-in-DeleteLocalRef-clause-stands : goal.returns-in-DeleteLocalRef-clause-stands
returns-in-DeleteLocalRef-clause-stands g c = λ p stands. rw c.in-DeleteLocalRef.is (c.delete_local.ensures.stands c.args.setup.now p stands)
