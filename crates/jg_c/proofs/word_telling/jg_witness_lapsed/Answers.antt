use Rattle.jg_c.proofs.Holding.{stepped_witness}
use Rattle.jg_c.proofs.word_telling.jg_witness_lapsed.Goals as goal

pub returns-in-Some-clause-takes : goal.returns-in-Some-clause-takes
returns-in-Some-clause-takes c = stepped_witness _ _ _ _ _ c.in-Some.ensures.value (c.witness.follows.holds _ _ c.in-Some.ensures.value) c.lapse.ensures.takes

pub returns-in-Some-clause-settings : goal.returns-in-Some-clause-settings
returns-in-Some-clause-settings c = stepped_witness _ _ _ _ _ c.in-Some.ensures.value (c.witness.follows.holds _ _ c.in-Some.ensures.value) c.lapse.ensures.settings
