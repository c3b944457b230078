use Rattle.jg_guard.proofs.Due.{stand_at}
use Rattle.jg_guard.proofs.Linking.{unlinked_at}
use Rattle.jg_guard.proofs.groups.vm.unregister.Goals as goal

pub returns-clause-stands : goal.returns-clause-stands
returns-clause-stands g c = λ p stands.
    let told = c.class_meant-class.ensures.told p (stand_at _ _ _ _ p c.view.ensures.setup c.view.ensures.rows stands) in
    let class = rw c.view.ensures.setup at told in
    unlinked_at _ _ p _ _ class (c.unlink.ensures.stands c.args.setup.now p stands)
