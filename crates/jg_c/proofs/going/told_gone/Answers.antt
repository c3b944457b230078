use Rattle.std.proofs.Common.{rules, ◌≡◌, to_z, of_z, w64}
use Rattle.jg_c.proofs.going.told_gone.Goals as goal

pub returns-in-Ok-clause-is : goal.returns-in-Ok-clause-is
returns-in-Ok-clause-is c =
    let plain : to_z w64 (of_z w64 c.write_line.result) ≡ c.write_line.result = search rules in
    rw plain (rw (c.clear.ensures.items, c.in-Ok.ensures) at c.write_line.ensures.is)
