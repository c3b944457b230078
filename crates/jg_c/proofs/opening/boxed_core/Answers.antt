use Rattle.jg_c.proofs.opening.boxed_core.Goals as goal

pub returns-in-Ok-new-clause-fresh : goal.returns-in-Ok-new-clause-fresh
returns-in-Ok-new-clause-fresh c = rw c.in-Ok-new.ensures.ok (c.fresh_core.ensures _ c.in-Ok.ensures.stated c.in-Ok.ensures.short)
