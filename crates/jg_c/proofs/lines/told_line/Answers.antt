use Rattle.std.proofs.Common.{rules, ◌≡◌, to_z, of_z, w64}
use Rattle.jg_c.proofs.lines.told_line.Goals as goal

pub returns-in-Ok-clause-is : goal.returns-in-Ok-clause-is
returns-in-Ok-clause-is c =
    let plain : to_z w64 (of_z w64 c.write_line.result) ≡ c.write_line.result = search rules in
    rw plain (rw (c.clear.ensures.items, c.in-Ok.ensures.0, c.in-Ok.ensures.1) at c.write_line.ensures.is)
