use Rattle.std.proofs.Common.{rules, ◌≡◌, subst, to_z, of_z, w64}
use Rattle.jg_guard.specs.Guard.{State}
use Rattle.jg_c.specs.Guards.{AnswersLine}
use Rattle.jg_c.proofs.Holding.{stepped_guard}
use Rattle.jg_c.proofs.guard.jg_call_line.Goals as goal

pub returns-in-Some-clause-answers : goal.returns-in-Some-clause-answers
returns-in-Some-clause-answers c =
    let plain : to_z w64 (of_z w64 c.call_line.result) ≡ c.call_line.result = search rules in
    rw plain (stepped_guard _ _ _ _ _ c.in-Some.ensures.value (c.guard.follows.holds _ _ c.in-Some.ensures.value)
    (subst (λ (g : State). AnswersLine g c.call_line.new.guard c.args.line.now c.args.entry.now c.call_line.new.out c.call_line.result) c.kept.view_is
    c.call_line.ensures.answers))
