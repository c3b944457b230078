use Rattle.std.proofs.Common.{rules, ◌≡◌, to_z, of_z, w32}
use Rattle.jg_c.proofs.word_asking.end_read.Goals as goal

pub returns-in-Ok-clause-stayed : goal.returns-in-Ok-clause-stayed
returns-in-Ok-clause-stayed c =
    let plain : to_z w32 (of_z w32 c.write_ended.result) ≡ c.write_ended.result = search rules in
    rw plain (λ n. (c.in-Ok.ensures.ok.otherwise (c.write_ended.ensures.passed n)).0)
