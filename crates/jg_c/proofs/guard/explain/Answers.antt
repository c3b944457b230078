use Rattle.std.proofs.Common.{rules, ◌≡◌, inl, to_z, of_z, w64}
use Rattle.jg_c.proofs.guard.explain.Goals as goal

pub returns-in-Ok-Some-clause-is : goal.returns-in-Ok-Some-clause-is
returns-in-Ok-Some-clause-is c =
    let plain : to_z w64 (of_z w64 c.copy_out.result) ≡ c.copy_out.result = search rules in
    rw plain (λ fine. inl (c.in-Ok-Some.told, rw c.in-Ok-Some.field-0-is at c.in-Ok-Some.ensures, rw c.as_bytes.ensures.value at c.copy_out.ensures))
