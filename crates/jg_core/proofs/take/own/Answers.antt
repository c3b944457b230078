use Rattle.jg_core.proofs.Due.{can_own}
use Rattle.jg_core.proofs.take.own.Goals as goal

pub enter-requires : goal.enter-requires
enter-requires g c = can_own c.args.setup.now c.requires.events c.args.tables.now.monitors c.args.object.0 c.requires.ordinary c.requires.stand.monitors
