use Rattle.jg_core.proofs.Due.{has_frame, can_push}
use Rattle.jg_core.proofs.take.take.Goals as goal

pub push-requires-clause-started : goal.push-requires-clause-started
push-requires-clause-started g c =
    has_frame c.args.setup.now c.requires.events c.args.tables.now.locals.rows _ c.requires.ordinary c.requires.stand.locals (rw c.in-Push.is at c.requires.can)

pub push-requires-clause-fits : goal.push-requires-clause-fits
push-requires-clause-fits g c = can_push c.args.setup.now c.requires.events c.args.tables.now.locals.rows _ c.requires.ordinary c.requires.stand.locals

pub ensure-requires : goal.ensure-requires
ensure-requires g c = has_frame c.args.setup.now c.requires.events c.args.tables.now.locals.rows _ c.requires.ordinary c.requires.stand.locals
    (rw c.in-Ensure.is at c.requires.can)
