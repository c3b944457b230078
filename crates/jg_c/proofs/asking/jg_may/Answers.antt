use Rattle.jg_c.proofs.Holding.{unchanged}
use Rattle.jg_c.proofs.asking.jg_may.Goals as goal

pub returns-in-Some-clause-same : goal.returns-in-Some-clause-same
returns-in-Some-clause-same c = unchanged _ _ _ _ c.in-Some.ensures.value (c.core.follows.holds _ _ c.in-Some.ensures.value) c.may.ensures.same
