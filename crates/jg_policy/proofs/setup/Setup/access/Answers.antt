use Rattle.std.proofs.Common.{◌<◌, ◌-◌, ◌∙◌, length, subst, refl, arith}
use Rattle.std.proofs.lemmas.Option.{slice_get_read}
use Rattle.jg_policy.specs.Stated.{StatedSetup}
use Rattle.jg_policy.specs.Settling.{AreSettled}
use Rattle.jg_policy.proofs.Settling.{settled_count, settled_for_use}
use Rattle.jg_policy.proofs.setup.Setup.access.Goals as goal

pub returns : goal.returns
returns c =
    let kept = c.self.inside.settled.items in
    let are : AreSettled c.args.self.now kept = subst (λ (s : StatedSetup). AreSettled s kept) c.self.view_is c.self.invariant.settled in
    let within : c.args.class - 15 < length kept = omega (arith, settled_count c.args.self.now kept are c.args.class c.if-class-lt-BASE_COUNT.false, c.requires)
    in
    c.access.ensures
    ∙ settled_for_use c.args.self.now kept are c.args.class c.if-class-lt-BASE_COUNT.false c.index.result.now
    (slice_get_read kept _ _ _ refl within c.index.ensures) c.args.operation
