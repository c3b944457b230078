use Rattle.jg_core.proofs.Due.{counts, has_frame, can_enter}
use Rattle.jg_core.proofs.take.enter.Goals as goal

pub enter-requires-clause-started : goal.enter-requires-clause-started
enter-requires-clause-started g c =
    has_frame c.args.setup.now c.requires.events c.args.tables.now.locals.rows c.args.tid.0 c.requires.ordinary c.requires.stand.locals c.requires.can

pub enter-requires-clause-fits : goal.enter-requires-clause-fits
enter-requires-clause-fits g c =
    can_enter c.args.setup.now c.requires.events c.args.tables.now.locals.rows c.args.tid.0 c.requires.ordinary c.requires.stand.locals

pub enter_native-requires-clause-room : goal.enter_native-requires-clause-room
enter_native-requires-clause-room g c =
    (counts c.args.setup.now c.requires.events c.args.tables.now.threads c.args.tid.0 c.requires.ordinary c.requires.stand.threads).depth
