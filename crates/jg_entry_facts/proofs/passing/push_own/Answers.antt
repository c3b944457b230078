use Rattle.jg_entry_facts.proofs.InOrder.{gone_in_order}
use Rattle.jg_entry_facts.proofs.passing.push_own.Goals as goal

pub returns-in_ok-push_gone-in-Collects : goal.returns-in_ok-push_gone-in-Collects
returns-in_ok-push_gone-in-Collects c = rw (c.in-Collects.is, gone_in_order c.args.gone.now) c.in_ok-push_gone-in-Collects.ensures
