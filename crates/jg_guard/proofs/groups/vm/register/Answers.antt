use Rattle.std.proofs.Common.{ap, ◌∙◌}
use Rattle.jg_rules.specs.Names.{native_meant}
use Rattle.jg_guard.proofs.Due.{stand_at}
use Rattle.jg_guard.proofs.Linking.{linked_at}
use Rattle.jg_guard.proofs.groups.vm.register.Goals as goal

pub returns-clause-stands : goal.returns-clause-stands
returns-clause-stands g c = λ p stands.
    let told = c.class_meant-class.ensures.told p (stand_at _ _ _ _ p c.view.ensures.setup c.view.ensures.rows stands) in
    let class = rw c.view.ensures.setup at told in
    let native = c.native_meant-native.ensures ∙ ap (λ k. native_meant c.args.setup.now k c.args.method.now c.args.signature.now) class in
    linked_at _ _ p _ _ _ _ class native (c.in_ok-link.ensures.stands c.args.setup.now p stands)
