use Rattle.std.proofs.Common.{rules, ◌≡◌, to_z, of_z, w32}
use Rattle.jg_c.proofs.Holding.{stepped}
use Rattle.jg_c.proofs.going.jg_gone_held.Goals as goal

pub returns-in-Some-clause-goes : goal.returns-in-Some-clause-goes
returns-in-Some-clause-goes c =
    let plain : to_z w32 (of_z w32 c.let_go_or_keep.result) ≡ c.let_go_or_keep.result = search rules in
    rw plain (λ n. stepped _ _ _ _ _ c.in-Some.ensures.value (c.core.follows.holds _ _ c.in-Some.ensures.value)
    (c.let_go_or_keep.ensures.goes n, c.let_go_or_keep.ensures.by))

pub returns-in-Some-clause-stayed : goal.returns-in-Some-clause-stayed
returns-in-Some-clause-stayed c =
    let plain : to_z w32 (of_z w32 c.let_go_or_keep.result) ≡ c.let_go_or_keep.result = search rules in
    rw plain (λ n. stepped _ _ _ _ _ c.in-Some.ensures.value (c.core.follows.holds _ _ c.in-Some.ensures.value) (c.let_go_or_keep.ensures.stayed n))

pub returns-in-Some-clause-bounds : goal.returns-in-Some-clause-bounds
returns-in-Some-clause-bounds c = stepped _ _ _ _ _ c.in-Some.ensures.value (c.core.follows.holds _ _ c.in-Some.ensures.value) c.let_go_or_keep.ensures.bounds
