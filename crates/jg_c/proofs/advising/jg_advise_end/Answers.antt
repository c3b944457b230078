use Rattle.std.proofs.Common.{rules, ◌≡◌, to_z, of_z, w32}
use Rattle.jg_c.proofs.Holding.{stepped_adviser}
use Rattle.jg_c.proofs.advising.jg_advise_end.Goals as goal

pub returns-in-Some-clause-notes : goal.returns-in-Some-clause-notes
returns-in-Some-clause-notes c =
    let plain : to_z w32 (of_z w32 c.advise_end.result) ≡ c.advise_end.result = search rules in
    rw plain (λ n. stepped_adviser _ _ _ _ _ c.in-Some.ensures.value (c.adviser.follows.holds _ _ c.in-Some.ensures.value) (c.advise_end.ensures.notes n))

pub returns-in-Some-clause-lost : goal.returns-in-Some-clause-lost
returns-in-Some-clause-lost c =
    let plain : to_z w32 (of_z w32 c.advise_end.result) ≡ c.advise_end.result = search rules in
    rw plain (λ n. stepped_adviser _ _ _ _ _ c.in-Some.ensures.value (c.adviser.follows.holds _ _ c.in-Some.ensures.value) (c.advise_end.ensures.lost n))
