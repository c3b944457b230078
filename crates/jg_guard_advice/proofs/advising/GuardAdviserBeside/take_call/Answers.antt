use Rattle.std.proofs.Common.{◌∙◌, sym}
use Rattle.jg_guard_advice.proofs.Standing.{denied_follows}
use Rattle.jg_guard_advice.proofs.advising.GuardAdviserBeside.take_call.Goals as goal

pub returns-in-None-clause-follows : goal.returns-in-None-clause-follows
returns-in-None-clause-follows g c = λ first. c.pass.ensures.follows first.log

pub returns-in-Some-clause-follows : goal.returns-in-Some-clause-follows
returns-in-Some-clause-follows g c = λ first follows.
    denied_follows first.log c.args.self.now.log c.args.guard.now c.take_judged.new.guard c.args.tid c.args.env c.args.call c.in-Some.rule c.take_judged.result
    follows
    (sym c.judge.ensures ∙ c.in-Some.is) c.take_judged.ensures.setup c.take_judged.ensures.took c.take_judged.ensures.same
