use Rattle.std.proofs.Common.{rules, ◌≡◌, to_z, of_z, w64}
use Rattle.jg_c.proofs.setup_fault.jg_setup_fault.Goals as goal

pub returns-in-Err-clause-is : goal.returns-in-Err-clause-is
returns-in-Err-clause-is c =
    let plain : to_z w64 (of_z w64 c.write_place.result) ≡ c.write_place.result = search rules in
    rw plain (λ n. c.write_place.ensures.is n c.in-Err.ensures.refused)
