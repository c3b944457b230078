use Rattle.std.proofs.Common.{rules, ◌≡◌, to_z, of_z, w32}
use Rattle.jg_c.proofs.Holding.{stepped_witness}
use Rattle.jg_c.proofs.word_telling.jg_witness_gone.Goals as goal

pub returns-in-Some-clause-goes : goal.returns-in-Some-clause-goes
returns-in-Some-clause-goes c =
    let plain : to_z w32 (of_z w32 c.let_go.result) ≡ c.let_go.result = search rules in
    rw plain (λ n. stepped_witness _ _ _ _ _ c.in-Some.ensures.value (c.witness.follows.holds _ _ c.in-Some.ensures.value) (c.let_go.ensures.goes n))

pub returns-in-Some-clause-settings : goal.returns-in-Some-clause-settings
returns-in-Some-clause-settings c = stepped_witness _ _ _ _ _ c.in-Some.ensures.value (c.witness.follows.holds _ _ c.in-Some.ensures.value) c.let_go.ensures.settings
