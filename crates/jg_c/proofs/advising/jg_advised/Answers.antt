use Rattle.std.proofs.Common.{rules, ◌≡◌, to_z, of_z, w32}
use Rattle.jg_c.proofs.Holding.{stepped_adviser}
use Rattle.jg_c.proofs.advising.jg_advised.Goals as goal

pub returns-in-Some-clause-takes : goal.returns-in-Some-clause-takes
returns-in-Some-clause-takes c =
    let plain : to_z w32 (of_z w32 c.take.result) ≡ c.take.result = search rules in
    rw plain (stepped_adviser _ _ _ _ _ c.in-Some.ensures.value (c.adviser.follows.holds _ _ c.in-Some.ensures.value) c.take.ensures.takes)
