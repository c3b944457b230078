use Rattle.std.proofs.Common.{rules, ◌≡◌, refl, to_z, of_z, w32}
use Rattle.jg_c.proofs.Holding.{of_core, stepped_adviser, unchanged}
use Rattle.jg_c.proofs.advising.jg_advise_fact.Goals as goal

pub returns-in-Some-core-clause-notes : goal.returns-in-Some-core-clause-notes
returns-in-Some-core-clause-notes c =
    let plain : to_z w32 (of_z w32 c.advise_fact.result) ≡ c.advise_fact.result = search rules in
    rw plain (λ n. of_core _ _ _ c.in-Some-core.ensures.value
    (stepped_adviser _ _ _ _ _ c.in-Some.ensures.value (c.adviser.follows.holds _ _ c.in-Some.ensures.value) (c.advise_fact.ensures.notes n)))

pub returns-in-Some-core-clause-lost : goal.returns-in-Some-core-clause-lost
returns-in-Some-core-clause-lost c =
    let plain : to_z w32 (of_z w32 c.advise_fact.result) ≡ c.advise_fact.result = search rules in
    rw plain (λ n. stepped_adviser _ _ _ _ _ c.in-Some.ensures.value (c.adviser.follows.holds _ _ c.in-Some.ensures.value) (c.advise_fact.ensures.lost n))

pub returns-in-Some-core-clause-same : goal.returns-in-Some-core-clause-same
returns-in-Some-core-clause-same c =
    unchanged _ _ _ _ c.in-Some-core.ensures.value (c.core.follows.holds _ _ c.in-Some-core.ensures.value) refl
