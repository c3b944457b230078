use Rattle.std.proofs.Common.{rules, ◌≡◌, to_z, of_z, w64}
use Rattle.jg_c.proofs.lines.write_question.Goals as goal

pub returns-clause-is : goal.returns-clause-is
returns-clause-is c =
    let plain : to_z w64 (of_z w64 c.write_line.result) ≡ c.write_line.result = search rules in
    rw plain (rw c.requires at c.write_line.ensures.is)
