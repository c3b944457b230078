use Rattle.std.proofs.Common.{rules, ◌≡◌, Option, sym, subst, to_z, of_z, w32}
use Rattle.jg_guard.specs.Guard.{State}
use Rattle.jg_c.specs.Guards.{JudgesLine}
use Rattle.jg_c.specs.Sessions.{Of}
use Rattle.jg_c.proofs.guard.jg_judge_line.Goals as goal

pub returns-in-Some-clause-judges : goal.returns-in-Some-clause-judges
returns-in-Some-clause-judges c =
    let plain : to_z w32 (of_z w32 c.judge_line.result) ≡ c.judge_line.result = search rules in
    rw plain (subst (λ (held : Option State). Of held (λ g. JudgesLine g c.args.line.now c.judge_line.result)) (sym c.in-Some.ensures.value)
    (subst (λ (g : State). JudgesLine g c.args.line.now c.judge_line.result) c.kept.view_is c.judge_line.ensures.judges))
