use Rattle.std.proofs.Common.{rules, ◌≡◌, inl, to_z, of_z, w64}
use Rattle.jg_c.proofs.guard.call_line.Goals as goal

pub returns-in-Ok-clause-answers : goal.returns-in-Ok-clause-answers
returns-in-Ok-clause-answers c =
    let plain : to_z w64 (of_z w64 c.make_call.result) ≡ c.make_call.result = search rules in
    rw plain (inl (c.in-Ok.tid, c.in-Ok.env, c.in-Ok.call, c.in-Ok.ensures.spelt, c.make_call.ensures.answers))
