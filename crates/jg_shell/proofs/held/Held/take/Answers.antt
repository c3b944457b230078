use Rattle.std.proofs.Common.{subst}
use Rattle.jg_guard.specs.Guard.{State, Takes}
use Rattle.jg_shell.proofs.held.Held.take.Goals as goal

pub returns-in-Ok-clause-taken : goal.returns-in-Ok-clause-taken
returns-in-Ok-clause-taken g c =
    subst (λ (s : State). Takes s c.call.new.self c.args.tid c.args.env c.args.call c.in-Ok.outcome) c.self.view_is c.in-Ok.ensures.ok
