use Rattle.std.proofs.Common.{rules, ◌≡◌, to_z, of_z, w32}
use Rattle.jg_c.proofs.Holding.{of_core, stepped_adviser}
use Rattle.jg_c.proofs.advising.jg_advise_call.Goals as goal

pub returns-in-Some-core-clause-notes : goal.returns-in-Some-core-clause-notes
returns-in-Some-core-clause-notes c =
    let plain : to_z w32 (of_z w32 c.advise_call.result) ≡ c.advise_call.result = search rules in
    rw plain (λ n. of_core _ _ _ c.in-Some-core.ensures.value
    (stepped_adviser _ _ _ _ _ c.in-Some.ensures.value (c.adviser.follows.holds _ _ c.in-Some.ensures.value) (c.advise_call.ensures.notes n)))

pub returns-in-Some-core-clause-lost : goal.returns-in-Some-core-clause-lost
returns-in-Some-core-clause-lost c =
    let plain : to_z w32 (of_z w32 c.advise_call.result) ≡ c.advise_call.result = search rules in
    rw plain (λ n. stepped_adviser _ _ _ _ _ c.in-Some.ensures.value (c.adviser.follows.holds _ _ c.in-Some.ensures.value) (c.advise_call.ensures.lost n))
