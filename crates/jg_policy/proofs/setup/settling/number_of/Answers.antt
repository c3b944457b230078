use Rattle.jg_policy.proofs.setup.settling.number_of.Goals as goal

pub returns-in_ok-insert-in-None-clause-kept : goal.returns-in_ok-insert-in-None-clause-kept
returns-in_ok-insert-in-None-clause-kept c other = c.in_ok-insert-in-None.ensures.updates.0 (record { ref_ptr = (0, 0); now = other })
