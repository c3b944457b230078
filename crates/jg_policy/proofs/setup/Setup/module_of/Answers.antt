use Rattle.std.proofs.Common.{◌-◌, ◌∙◌, slice_get, subst, refl, ap, sym}
use Rattle.std.proofs.lemmas.Option.{slice_get_read}
use Rattle.jg_policy.specs.Stated.{StatedSetup}
use Rattle.jg_policy.specs.Settling.{AreSettled}
use Rattle.jg_policy.proofs.Settling.{settled_home}
use Rattle.jg_policy.proofs.setup.Setup.module_of.Goals as goal

pub returns-in-Some : goal.returns-in-Some
returns-in-Some c =
    let kept = c.self.inside.settled.items in
    let are : AreSettled c.args.self.now kept = subst (λ (s : StatedSetup). AreSettled s kept) c.self.view_is c.self.invariant.settled in
    settled_home c.args.self.now kept are c.args.class c.if-class-lt-BASE_COUNT.false c.in-Some.settled.now
    (ap (λ ks. slice_get ks (c.args.class - 15)) (sym c.deref.ensures.value)
    ∙ slice_get_read c.deref.result.now _ _ _ refl c.in-Some.ensures.lookup.3.0 c.in-Some.ensures.lookup.1)
