use Rattle.std.proofs.Common.{rules, ◌≡◌, to_z, of_z, w32}
use Rattle.jg_c.proofs.Holding.{stepped}
use Rattle.jg_c.proofs.telling.jg_did.Goals as goal

pub returns-in-Some-clause-did : goal.returns-in-Some-clause-did
returns-in-Some-clause-did c =
    let plain : to_z w32 (of_z w32 c.did.result) ≡ c.did.result = search rules in
    rw plain (stepped _ _ _ _ _ c.in-Some.ensures.value (c.core.follows.holds _ _ c.in-Some.ensures.value) c.did.ensures.did)

pub returns-in-Some-clause-stayed : goal.returns-in-Some-clause-stayed
returns-in-Some-clause-stayed c =
    let plain : to_z w32 (of_z w32 c.did.result) ≡ c.did.result = search rules in
    rw plain (λ n. stepped _ _ _ _ _ c.in-Some.ensures.value (c.core.follows.holds _ _ c.in-Some.ensures.value) (c.did.ensures.stayed n))

pub returns-in-Some-clause-bounds : goal.returns-in-Some-clause-bounds
returns-in-Some-clause-bounds c = stepped _ _ _ _ _ c.in-Some.ensures.value (c.core.follows.holds _ _ c.in-Some.ensures.value) c.did.ensures.bounds

pub returns-in-Some-clause-kept : goal.returns-in-Some-clause-kept
returns-in-Some-clause-kept c =
    let plain : to_z w32 (of_z w32 c.did.result) ≡ c.did.result = search rules in
    rw plain c.did.ensures.kept
