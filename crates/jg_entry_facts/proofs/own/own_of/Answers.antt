use Rattle.jg_entry_facts.proofs.own.own_of.Goals as goal

pub returns-in-Refs : goal.returns-in-Refs
returns-in-Refs g c = λ p stands. rw c.in-Refs.is (c.own_of_refs.ensures c.args.view.now.setup.now p c.args.tid)

pub returns-in-Frames : goal.returns-in-Frames
returns-in-Frames g c = λ p stands. rw c.in-Frames.is (c.own_of_frames.ensures c.args.view.now.setup.now p)

pub returns-in-Exceptions : goal.returns-in-Exceptions
returns-in-Exceptions g c = λ p stands. rw c.in-Exceptions.is (c.own_of_exceptions.ensures c.args.view.now.setup.now p)

pub returns-in-Monitors : goal.returns-in-Monitors
returns-in-Monitors g c = λ p stands. rw c.in-Monitors.is (c.own_of_monitors.ensures p stands)
