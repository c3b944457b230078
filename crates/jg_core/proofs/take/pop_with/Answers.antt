use Rattle.std.proofs.Common.{rules}
use Rattle.jg_core.proofs.take.pop_with.Goals as goal

pub returns-clause-ok : goal.returns-clause-ok
returns-clause-ok g c = λ p stand. c.in-Ok.ensures.ok _ (c.pop.ensures.takes p (search rules))
