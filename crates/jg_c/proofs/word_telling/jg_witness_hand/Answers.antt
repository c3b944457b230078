use Rattle.std.proofs.Common.{rules, ◌≡◌, to_z, of_z, w32}
use Rattle.jg_c.proofs.Holding.{stepped_witness}
use Rattle.jg_c.proofs.word_telling.jg_witness_hand.Goals as goal

pub returns-in-Some-clause-hands : goal.returns-in-Some-clause-hands
returns-in-Some-clause-hands c =
    let plain : to_z w32 (of_z w32 c.hand.result) ≡ c.hand.result = search rules in
    rw plain (stepped_witness _ _ _ _ _ c.in-Some.ensures.value (c.witness.follows.holds _ _ c.in-Some.ensures.value) c.hand.ensures.hands)

pub returns-in-Some-clause-settings : goal.returns-in-Some-clause-settings
returns-in-Some-clause-settings c = stepped_witness _ _ _ _ _ c.in-Some.ensures.value (c.witness.follows.holds _ _ c.in-Some.ensures.value) c.hand.ensures.settings
