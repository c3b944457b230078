use Rattle.std.proofs.Common.{rules, ◌≡◌, to_z, of_z, w32}
use Rattle.jg_c.proofs.Holding.{stepped_witness}
use Rattle.jg_c.proofs.word_asking.jg_witness_ending.Goals as goal

pub returns-in-Some-clause-ends : goal.returns-in-Some-clause-ends
returns-in-Some-clause-ends c =
    let plain : to_z w32 (of_z w32 c.end.result) ≡ c.end.result = search rules in
    rw plain (λ n. stepped_witness _ _ _ _ _ c.in-Some.ensures.value (c.witness.follows.holds _ _ c.in-Some.ensures.value) (c.end.ensures.ends n))

pub returns-in-Some-clause-stayed : goal.returns-in-Some-clause-stayed
returns-in-Some-clause-stayed c =
    let plain : to_z w32 (of_z w32 c.end.result) ≡ c.end.result = search rules in
    rw plain (λ n. stepped_witness _ _ _ _ _ c.in-Some.ensures.value (c.witness.follows.holds _ _ c.in-Some.ensures.value) (c.end.ensures.stayed n))

pub returns-in-Some-clause-settings : goal.returns-in-Some-clause-settings
returns-in-Some-clause-settings c = stepped_witness _ _ _ _ _ c.in-Some.ensures.value (c.witness.follows.holds _ _ c.in-Some.ensures.value) c.end.ensures.settings
