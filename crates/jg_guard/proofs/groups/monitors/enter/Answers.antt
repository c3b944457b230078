use Rattle.jg_guard.proofs.Due.{can_own}
use Rattle.jg_guard.proofs.groups.monitors.enter.Goals as goal

pub enter-requires : goal.enter-requires
enter-requires g c = can_own c.requires.due.events c.args.tables.now.monitors c.the_object-object.result.0 c.requires.due.ordinary c.requires.due.stand.monitors
